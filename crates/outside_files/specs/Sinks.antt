-- What a write may answer.
use Rattle.std.specs.Prelude.{◌≡◌, ℕ, ◌<◌, ◌≤◌, List, ◌++◌, length, take, Option, Some, None, IfSome, IsSomeAnd}
use Rattle.outside_files.specs.Counts.{Rose}
use Rattle.outside_files.specs.declared.sink.SinkAnswer.{SinkAnswer}
use Rattle.outside_files.specs.declared.sink.SinkAnswer.TheVariants.{Took, Failed}

-- a write took the first so many bytes of the piece, or failed where the count of faults rose; to take none of a
-- piece that isn't empty is a fault
abbrev pub IsWriteOf : List ℕ → ℕ → ℕ → SinkAnswer → Type 0
IsWriteOf piece old new (Took n) = (n ≤ length piece) × (n ≡ 0 → 0 < length piece → Rose old new)
IsWriteOf piece old new Failed = Rose old new

-- how many bytes a write took
abbrev pub taken : SinkAnswer → ℕ
taken (Took n) = n
taken Failed = 0

-- what a sink tells grew by the bytes that it took
abbrev pub GrewBy : Option (List ℕ) → List ℕ → Option (List ℕ) → Type 0
GrewBy None more new = new ≡ None
GrewBy (Some old) more new = new ≡ Some (old ++ more)
