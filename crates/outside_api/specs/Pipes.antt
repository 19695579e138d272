-- What is told of a connection, and what a read on it may answer.
use Rattle.std.specs.Prelude.{◌≡◌, ℕ, ◌≤◌, ◌==◌, ◌||◌, Bool, false, List, ◌++◌, take, Option, Some, None}
use Rattle.outside_files.specs.Counts.{Rose}
use Rattle.outside_api.specs.declared.pipe.PipeAnswer.{PipeAnswer}
use Rattle.outside_api.specs.declared.pipe.PipeAnswer.TheVariants.{Got, Failed}

-- what was written on a connection, what was read from it, and whether a read found its end
pub record Talk : Type 0 where
  pub written : List ℕ
  pub read : List ℕ
  pub ended : Bool

-- a connection on which nothing was said
abbrev pub silence : Talk
silence = record { written = List.[]; read = List.[]; ended = false }

-- the talk after more was written
abbrev pub after_write : List ℕ → Talk → Talk
after_write more talk = record talk { written = talk.written ++ more }

-- the talk after a read into this room
abbrev pub after_read : List ℕ → PipeAnswer → Talk → Talk
after_read room (Got n) talk = record talk { read = talk.read ++ take n room; ended = talk.ended || (n == 0) }
after_read room Failed talk = talk

-- a read got at most as many bytes as there is room, or failed where the count of faults rose
abbrev pub IsGotOf : ℕ → ℕ → ℕ → PipeAnswer → Type 0
IsGotOf room old new (Got n) = n ≤ room
IsGotOf room old new Failed = Rose old new

-- what is told changed so
abbrev pub ToldBy : (Talk → Talk) → Option Talk → Option Talk → Type 0
ToldBy change None new = new ≡ None
ToldBy change (Some old) new = new ≡ Some (change old)
