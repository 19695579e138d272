-- What a read of a file may answer.
use Rattle.std.specs.Prelude.{◌≡◌, ℕ, ◌<◌, ◌≤◌, List, length, Some, None, IsSomeAnd}
use Rattle.tree_base.specs.Entries.{value_at}
use Rattle.outside_files.specs.declared.files.FileAnswer.{FileAnswer}
use Rattle.outside_files.specs.declared.files.FileAnswer.TheVariants.{Bytes, Missing, Longer, Failed, Memory}

-- the bytes of files under their paths
abbrev pub Contents : Type 0
Contents = List (List ℕ × List ℕ)

-- an answer is true of these files: the bytes are that file's and within the limit, a missing file isn't there,
-- and a longer one has more bytes than the limit
abbrev pub IsReadOf : Contents → List ℕ → ℕ → FileAnswer → Type 0
IsReadOf files path limit (Bytes bytes) = (value_at files path ≡ Some bytes) × (length bytes ≤ limit)
IsReadOf files path limit Missing = value_at files path ≡ None
IsReadOf files path limit Longer = IsSomeAnd (value_at files path) (λ bytes. limit < length bytes)
IsReadOf files path limit Failed = Unit {0}
IsReadOf files path limit Memory = Unit {0}
