-- What is kept of reads.
use Rattle.std.specs.Prelude.{◌≡◌, ◌⊎◌, ℕ, if◌then◌else◌, List, Option, Some, None}
use Rattle.std.specs.Str.{bytes_eq}
use Rattle.kept_files.specs.declared.kept_files.KeptFiles.{KeptFiles}
use Rattle.outside_files.specs.Files.{Contents}
use Rattle.outside_files.specs.declared.files.FileAnswer.{FileAnswer}
use Rattle.outside_files.specs.declared.files.FileAnswer.TheVariants.{Bytes}
use Rattle.tree_base.specs.Entries.{value_at, with_entry}

-- what is kept, by what was kept under a path before: bytes that come again stay, and other ones there end it
abbrev pub met : Contents → List ℕ → List ℕ → Option (List ℕ) → Option Contents
met kept path bytes None = Some (with_entry kept path bytes)
met kept path bytes (Some earlier) = if bytes_eq earlier bytes then Some kept else None

-- what is kept with the bytes of one more read
abbrev pub with_bytes : Contents → List ℕ → List ℕ → Option Contents
with_bytes kept path bytes = met kept path bytes (value_at kept path)

-- what is kept after a read, where anything was
abbrev pub kept_after : Option Contents → List ℕ → FileAnswer → Option Contents
kept_after None path answer = None
kept_after (Some kept) path (Bytes bytes) = with_bytes kept path bytes
kept_after (Some kept) path answer = Some kept

-- a read's bytes are kept, or nothing is any more
abbrev pub KeepsAs : Option Contents → List ℕ → FileAnswer → Option Contents → Type 0
KeepsAs old path answer new = (new ≡ kept_after old path answer) ⊎ (new ≡ None)

-- what files keep
abbrev pub kept_of : {F : Type 0} → KeptFiles F → Option Contents
kept_of files = files.kept
