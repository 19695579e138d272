-- What looking behind a run leaves in the plug.
use Rattle.std.specs.Prelude.{◌≡◌, ◌⊎◌, ℕ, List, [], ◌∷◌, ◌++◌, Option}
use Rattle.compose_cli.specs.Ends.{CountsHands}
use Rattle.engine_types.specs.declared.Request.{Request}
use Rattle.ledger_run.specs.Tellings.{Telling}
use Rattle.name_conflicts.specs.Looks.{HasLooked}
use Rattle.outside_api.specs.Clock.{new_clock}
use Rattle.outside_api.specs.declared.dial.Dial.{Dial}
use Rattle.outside_files.specs.Counts.{Rose}
use Rattle.repeated_runs.specs.declared.looking.Looked.{Looked}

-- the plug was asked for worker 0's hand; where it made one, this looked, and else nothing was done
abbrev pub Looks : {H : Type 0} → (H → Telling) → (ℕ → Dial → Type 0) → List ℕ → Request → Option ℕ
    → Looked H → List Dial → List Dial → Option ℕ → Option ℕ → ℕ → ℕ → Type 0
Looks tell Place project request deadline (Looked.By hand end) old new dialled_old dialled_new faults_old faults_new =
    ((dial : Dial) × Place 0 dial × (new ≡ old ++ dial ∷ []))
    × CountsHands dialled_old dialled_new 1
    × HasLooked project request deadline end [] (tell hand).log new_clock (tell hand).clock
Looks tell Place project request deadline Looked.Undialled old new dialled_old dialled_new faults_old faults_new =
    ((dial : Dial) × Place 0 dial × (new ≡ old ++ dial ∷ [])) × (dialled_new ≡ dialled_old)
    × Rose faults_old faults_new
Looks tell Place project request deadline Looked.Short old new dialled_old dialled_new faults_old faults_new =
    ((new ≡ old) ⊎ ((dial : Dial) × Place 0 dial × (new ≡ old ++ dial ∷ [])))
    × (dialled_new ≡ dialled_old)
