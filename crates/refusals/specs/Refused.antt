-- What a call is refused with.
use Rattle.std.specs.Prelude.{◌≡◌, Bool, true, false, ◌||◌, Option, Some, None}
use Rattle.file_digests.specs.declared.DigestRefusal.{DigestRefusal}
use Rattle.loaded_files.specs.declared.LoadRefusal.{LoadRefusal}
use Rattle.refusals.specs.declared.refusal.Refusal.{Refusal}
use Rattle.tree_base.specs.Answers.{Unless}

-- a want of memory
abbrev pub wants_memory : Refusal → Bool
wants_memory Refusal.Memory = true
wants_memory _ = false

-- a read that failed
abbrev pub is_failed_read : Refusal → Bool
is_failed_read (Refusal.Load (LoadRefusal.ReadFault path)) = true
is_failed_read _ = false

-- a want of memory or a read that failed, which may come whatever was asked for
abbrev pub is_free : Refusal → Bool
is_free refusal = wants_memory refusal || is_failed_read refusal

-- a read for a digest that failed
abbrev pub is_failed_digest : Refusal → Bool
is_failed_digest (Refusal.Digest (DigestRefusal.ReadFault path)) = true
is_failed_digest _ = false

-- a want of memory or a read for a digest that failed, which may come whatever is declared
abbrev pub is_free_of_declaring : Refusal → Bool
is_free_of_declaring refusal = wants_memory refusal || is_failed_digest refusal

-- the refusal is this one; a read that failed and a want of memory may stand in its place
abbrev pub IsRefusal : Refusal → Option Refusal → Type 0
IsRefusal expected None = ⊥
IsRefusal expected (Some found) = Unless (is_free found) (found ≡ expected)
