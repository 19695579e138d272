-- What the lines of logs leave in a sink.
use Rattle.std.specs.Prelude.{◌≡◌, ℕ, ◌≤◌, Bool, true, false, List, ◌++◌, length, take, Option, Result, Ok, Err}
use Rattle.tree_base.specs.declared.memory.Memory.{Memory}
use Rattle.outside_files.specs.Counts.{Rose}
use Rattle.outside_files.specs.Sinks.{GrewBy}
use Rattle.outside_files.specs.Writing.{Wrote}

-- a sink grew by a prefix of a text
abbrev pub GrewByPart : List ℕ → Option (List ℕ) → Option (List ℕ) → Type 0
GrewByPart text old new = (n : ℕ) × (n ≤ length text) × GrewBy old (take n text) new

-- a sink grew by a text; by a prefix of it where its count of faults rose; and by a prefix where memory was wanted
abbrev pub Printed : Result Bool Memory → List ℕ → Option (List ℕ) → Option (List ℕ) → ℕ → ℕ → Type 0
Printed (Ok whole) text old new faults_old faults_new =
    Wrote whole text old new faults_old faults_new
Printed (Err wanted) text old new faults_old faults_new = GrewByPart text old new

-- a sink grew by all of a text but what is left
abbrev pub TookBut : List ℕ → List ℕ → Option (List ℕ) → Option (List ℕ) → Type 0
TookBut left text old new = (sent : List ℕ) × (sent ++ left ≡ text) × GrewBy old sent new

-- a text was put behind what is held for a sink: it grew by all of both but what is held then; by a prefix where its count of
-- faults rose, or memory was wanted
abbrev pub HasPut : Result Bool Memory → List ℕ → List ℕ → List ℕ
    → Option (List ℕ) → Option (List ℕ) → ℕ → ℕ → Type 0
HasPut (Ok true) text held kept old new faults_old faults_new = TookBut kept (held ++ text) old new
HasPut (Ok false) text held kept old new faults_old faults_new =
    Rose faults_old faults_new × GrewByPart (held ++ text) old new
HasPut (Err wanted) text held kept old new faults_old faults_new =
    GrewByPart (held ++ text) old new
