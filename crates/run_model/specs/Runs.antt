-- Whole runs, by their journals as they are written: oldest entry first.
use Rattle.std.specs.Prelude.{◌≡◌, ℕ, Bool, false, ◌&&◌, List, [], reverse, unwrap_or, Option, option_map}
use Rattle.engine_types.specs.declared.Aim.{Aim}
use Rattle.engine_types.specs.declared.Declared.{Declared}
use Rattle.engine_types.specs.declared.Engine.{Engine}
use Rattle.engine_types.specs.declared.Entry.{Entry}
use Rattle.engine_types.specs.declared.Exchange.{Exchange}
use Rattle.engine_types.specs.declared.RunFault.{RunFault}
use Rattle.engine_types.specs.declared.RunLimits.{RunLimits}
use Rattle.engine_types.specs.declared.RunOptions.{RunOptions}
use Rattle.engine_types.specs.declared.Seen.{Seen}
use Rattle.run_model.specs.Ending.{EveryWorkerLeft, IsFinal, first_fault, is_seen_bad, status_of}
use Rattle.run_model.specs.Journals.{Setup, seen_in}
use Rattle.run_model.specs.Legal.{IsLegal}
use Rattle.run_model.specs.Lines.{report_text}
use Rattle.run_model.specs.Logs.{deadline_after, exchanges_of}
use Rattle.run_model.specs.Observation.{is_up}
use Rattle.run_model.specs.Rolling.{run_actions}
use Rattle.run_model.specs.Worlds.{IsWorldOf, Move}

-- the limits of a run of so many workers with these options; the deadline is counted from the first reading of hand 0's clock
abbrev pub limits_of : ℕ → RunOptions → ℕ → RunLimits
limits_of workers options first = record {
  workers = workers;
  deadline = option_map (deadline_after first) options.wait_seconds;
  wait = options.wait;
  stop_seconds = options.stop_seconds;
}

-- what a run is asked to do: for which declared set, with which aim, and within which limits
pub record Task : Type 0 where
  pub declared : Declared
  pub aim : Aim
  pub limits : RunLimits

-- nothing seen
abbrev pub unseen : Seen
unseen = record { containers = []; networks = []; volumes = []; images = [] }

-- what the journal's observation saw, and nothing where it ended badly
abbrev pub run_seen : List Entry → Seen
run_seen journal = unwrap_or (seen_in (reverse journal)) unseen

-- what a run is of: its actions are planned from what its observation saw, and it waits for goals only where it brings a project up
abbrev pub run_setup : Task → List Entry → Setup
run_setup task journal = record {
  declared = task.declared;
  seen = run_seen journal;
  actions =
      run_actions (record { declared = task.declared; seen = run_seen journal; aim = task.aim });
  limits = record task.limits { wait = task.limits.wait && is_up task.aim.purpose };
}

-- a whole run of the task: its journal is legal and final
pub record IsRun (task : Task) (journal : List Entry) : Type 0 where
  pub legal : IsLegal task.aim (run_setup task journal) (reverse journal)
  pub over : IsFinal (run_setup task journal) (reverse journal)

-- where the observation ended well, every worker of the run has left
abbrev pub IsLeftByAll : Task → List Entry → Type 0
IsLeftByAll task journal =
    is_seen_bad (reverse journal) ≡ false
    → EveryWorkerLeft (run_setup task journal) (reverse journal)

-- what the run is refused with
abbrev pub run_fault : Task → List Entry → Option RunFault
run_fault task journal = first_fault (run_setup task journal) (reverse journal)

-- the run's exit status
abbrev pub run_status : Task → List Entry → ℕ
run_status task journal = status_of (run_setup task journal) (reverse journal)

-- the run's report
abbrev pub run_report : Task → List Entry → List ℕ
run_report task journal = report_text (run_setup task journal) (reverse journal)

-- the exchanges of a worker's hand
abbrev pub run_exchanges : Task → List Entry → ℕ → List Exchange
run_exchanges task journal w = exchanges_of (run_setup task journal) (reverse journal) w

-- a world of the run, which leads from one Engine to another
abbrev pub IsWorldOfRun : Task → List Entry → Engine → List Move → Engine → Type 0
IsWorldOfRun task journal first moves last =
    IsWorldOf (run_setup task journal) (reverse journal) first moves last
