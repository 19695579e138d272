-- What is said of a refusal, and what that leaves in a sink.
use Rattle.std.specs.Prelude.{◌≡◌, ℕ, List, Option, Some, None}
use Rattle.refusals.specs.Lines.{refusal_line}
use Rattle.refusals.specs.declared.refusal.Refusal.{Refusal}
use Rattle.outside_files.specs.Writing.{Says}

-- the refusal that is said: this one, or a want of memory
abbrev pub IsSaid : Refusal → Option Refusal → Type 0
IsSaid refusal (Some Refusal.Memory) = Unit {0}
IsSaid refusal found = found ≡ Some refusal

-- the line of the refusal was said, and nothing where there is none
abbrev pub SaysRefusal : Option Refusal → Option (List ℕ) → Option (List ℕ) → ℕ → ℕ → Type 0
SaysRefusal None old new faults_old faults_new = new ≡ old
SaysRefusal (Some refusal) old new faults_old faults_new =
    Says (refusal_line refusal) old new faults_old faults_new

-- the same of a refusal, if any
abbrev pub IsSaidIfAny : Option Refusal → Option Refusal → Type 0
IsSaidIfAny None found = found ≡ None
IsSaidIfAny (Some refusal) found = IsSaid refusal found
