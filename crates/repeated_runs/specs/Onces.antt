-- What one run of a call leaves, whose hands are dialled.
use Rattle.std.specs.Prelude.{◌≡◌, ◌⊎◌, ℕ, List, [], Option, None}
use Rattle.compose_cli.specs.Runs.{IsUnbegun, RanAs}
use Rattle.compose_cli.specs.declared.Ended.{Ended}
use Rattle.engine_types.specs.declared.Declared.{Declared}
use Rattle.engine_types.specs.declared.RunLimits.{RunLimits}
use Rattle.ledger_run.specs.Tellings.{Telling}
use Rattle.outside_files.specs.Sinks.{GrewBy}
use Rattle.project_run.specs.Whole.{IfBegun}
use Rattle.refusals.specs.Origins.{IsOfRun}
use Rattle.refusals.specs.Statuses.{status_of}
use Rattle.repeated_runs.specs.Conflicts.{conflict_of}
use Rattle.repeated_runs.specs.declared.once.Left.{Left}
use Rattle.run_model.specs.EngineRules.{Among}
use Rattle.run_model.specs.Runs.{Task, run_report}

-- what is left of a run is the declared set and these limits
pub record IsLeft (declared : Declared) (limits : RunLimits) (left : Left) : Type 0 where
  pub declares : left.declared ≡ declared
  pub limited : left.limits ≡ limits

-- where a run was refused a create whose name is used, its whole report was written
abbrev pub WritesWhole : {H : Type 0} → Task → Ended H → Option (List ℕ) → Option (List ℕ) → Type 0
WritesWhole task ended old new =
    (conflict_of ended.refusal ≡ None) ⊎ GrewBy old (run_report task ended.journal) new

-- a run of a task was made with new hands, and its report written
pub record IsRunWith {H : Type 0} (tell : H → Telling) (task : Task) (ended : Ended H)
    (written_old written_new : Option (List ℕ)) (faults_old faults_new : ℕ) : Type 0 where
  pub origin : IsOfRun ended.refusal
  pub unbegun : ended.journal ≡ [] → IsUnbegun ended.refusal
  pub quiet : ended.journal ≡ [] → written_new ≡ written_old
  pub unsent : ended.journal ≡ [] → (hand : H) → Among ended.hands hand → (tell hand).log ≡ []
  pub ran : IfBegun ended.journal (RanAs tell task ended written_old written_new
      faults_old faults_new)
  pub status : ended.status ≡ status_of ended.refusal
