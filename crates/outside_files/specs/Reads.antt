-- What files tell of the reads that they were asked for.
use Rattle.std.specs.Prelude.{◌≡◌, ◌⊎◌, ℕ, Bool, true, false, if◌then◌else◌, List, [], ◌∷◌, ◌++◌}
use Rattle.outside_files.specs.declared.file_read.FileRead.{FileRead}
use Rattle.outside_files.specs.declared.files.FileAnswer.{FileAnswer}
use Rattle.outside_files.specs.declared.files.FileAnswer.TheVariants.{Failed, Memory}

-- a read of a path, which failed or not
abbrev pub read_of : List ℕ → Bool → FileRead
read_of path failed = record { path = path; failed = failed }

-- whether a read failed
abbrev pub is_failed : FileAnswer → Bool
is_failed Failed = true
is_failed _ = false

-- the reads with one more, which was answered so
abbrev pub with_read : List FileRead → List ℕ → FileAnswer → List FileRead
with_read reads path answer = reads ++ read_of path (is_failed answer) ∷ []

-- the reads grew by exactly this one, which failed exactly where that is answered; where memory was wanted they may have stayed
abbrev pub AddsRead : List FileRead → List ℕ → List FileRead → FileAnswer → Type 0
AddsRead old path new answer = (new ≡ with_read old path answer) ⊎ ((answer ≡ Memory) × (new ≡ old))

-- how reads went: all went well; the last one failed, at this path, and no other; or one failed and another one followed it
pub data Went : Type 0 where
  Well : Went
  FailedAt : List ℕ → Went
  WentOn : Went

-- how a read of a path went that was answered so
abbrev pub answered_as : List ℕ → FileAnswer → Went
answered_as path Failed = FailedAt path
answered_as path answer = Well

-- how it went after one read more
abbrev pub went_after : Went → FileRead → Went
went_after Well read = if read.failed then FailedAt read.path else Well
went_after (FailedAt path) read = WentOn
went_after WentOn read = WentOn

-- how it went after reads, in order
abbrev pub went_from : Went → List FileRead → Went
went_from before [] = before
went_from before (read ∷ rest) = went_from (went_after before read) rest

-- how reads went, in order
abbrev pub went : List FileRead → Went
went reads = went_from Well reads
