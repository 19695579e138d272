-- What a text leaves in a sink.
use Rattle.std.specs.Prelude.{ℕ, ◌≤◌, Bool, true, false, List, length, take, Option}
use Rattle.outside_files.specs.Counts.{Rose}
use Rattle.outside_files.specs.Sinks.{GrewBy}

-- a sink grew by the whole text, or by a prefix of it, where its count of faults rose
abbrev pub Wrote : Bool → List ℕ → Option (List ℕ) → Option (List ℕ) → ℕ → ℕ → Type 0
Wrote true text old new faults_old faults_new = GrewBy old text new
Wrote false text old new faults_old faults_new = Rose faults_old faults_new × ((n : ℕ) × (n ≤ length text) × GrewBy old (take n text) new)

-- a sink grew by a text, or by a prefix of it where its count of faults rose
abbrev pub Says : List ℕ → Option (List ℕ) → Option (List ℕ) → ℕ → ℕ → Type 0
Says text old new faults_old faults_new = (whole : Bool) × Wrote whole text old new faults_old faults_new
