-- The mount of a text that is cut at its colons one by one.
use Rattle.std.proofs.Common.{◌≡◌, ℕ, ◌<◌, List, [], ◌∷◌, length, Some, None, refl, ap, ◌∙◌, arith}
use Rattle.std.specs.Option.{option_and_then}
use Rattle.short_forms.specs.Cuts.{cut_once, parts_at}
use Rattle.short_forms.specs.Mounts.{mode_of, mount_from, mount_in}
use Rattle.short_forms.proofs.CutLemmas.{some_parts, split_cut, split_whole}

-- more than three parts are no mount
four_parts : (source target mode : List ℕ) (parts : List (List ℕ)) → 0 < length parts → mount_in (source ∷ target ∷ mode ∷ parts) ≡ None
four_parts source target mode [] some = absurd (omega arith)
four_parts source target mode (part ∷ parts) some = refl

-- what stands behind the second colon is a mode, or has a third colon
pub is_mode_part : (source target mode : List ℕ) → cut_once 58 mode ≡ None → mount_in (source ∷ target ∷ parts_at 58 mode) ≡ option_and_then (mount_from source target) (mode_of mode)
is_mode_part source target mode e = ap (λ parts. mount_in (source ∷ target ∷ parts)) (split_whole 58 mode e)

pub third_colon : (source target mode first more : List ℕ) → cut_once 58 mode ≡ Some (first, more) → mount_in (source ∷ target ∷ parts_at 58 mode) ≡ None
third_colon source target mode first more e =
    ap (λ parts. mount_in (source ∷ target ∷ parts)) (split_cut 58 mode first more e) ∙ four_parts source target first (parts_at 58 more) (some_parts 58 more)
