-- What a run of several workers leaves.
use Rattle.std.specs.Prelude.{◌≡◌, ◌⊎◌, ℕ, List, [], ◌∷◌, length, reverse}
use Rattle.engine_types.specs.declared.Aim.{Aim}
use Rattle.engine_types.specs.declared.Declared.{Declared}
use Rattle.engine_types.specs.declared.Entry.{Entry}
use Rattle.engine_types.specs.declared.Observed.{Observed}
use Rattle.engine_types.specs.declared.Plan.{Plan}
use Rattle.engine_types.specs.declared.RunLimits.{RunLimits}
use Rattle.journal_laws.specs.Courses.{Course, setup_of}
use Rattle.journal_laws.specs.Laws.{IsLegalRun}
use Rattle.ledger_core.specs.Beginning.{begun}
use Rattle.ledger_run.specs.Tellings.{Telling, account_in}
use Rattle.ledger_run.specs.Works.{GoesOn}
use Rattle.outside_api.specs.Clock.{Clock}
use Rattle.project_run.specs.Carrying.{come_to, cut_short}
use Rattle.project_run.specs.Opening.{Opens}
use Rattle.project_run.specs.Options.{clock_begun}
use Rattle.project_run.specs.Timing.{IsTimed, ReadsFirst}
use Rattle.project_run.specs.Whole.{IsCaused}
use Rattle.project_run.specs.declared.opening.Opening.{Opening}
use Rattle.engine_types.specs.declared.RunOptions.{RunOptions}
use Rattle.run_model.specs.Ending.{EveryWorkerLeft}
use Rattle.run_model.specs.Logs.{GrowsBy}
use Rattle.run_model.specs.Runs.{IsLeftByAll, IsRun, Task, limits_of, run_exchanges}
use Rattle.worker_pool.specs.Crew.{EachPair, HasDone}

-- the first reading of hand 0's clock
abbrev pub first_reading : {H : Type 0} → (H → Clock) → List H → ℕ
first_reading clock [] = 0
first_reading clock (hand ∷ others) = (clock hand).first

-- the limits of a run of so many workers, by the first reading of hand 0's clock
abbrev pub limits_by : ℕ → RunOptions → ℕ → RunLimits
limits_by workers options first = limits_of workers options first

-- the run opened with hand 0, whose clock was read first where there is a deadline; the other hands are as they were
pub record OpensWith {H : Type 0} (tell : H → Telling) (declared : Declared) (aim : Aim)
    (bounds : RunLimits) (opening : Opening) (before after : List H) : Type 0 where
  pub first : H
  pub opened : H
  pub others : List H
  pub were : before ≡ first ∷ others
  pub are : after ≡ opened ∷ others
  pub clock : Clock
  pub read : clock ≡ clock_begun bounds.deadline (length (tell first).log) clock.first
  pub opens : Opens declared aim opening (record (tell first) { clock = clock }) (tell opened)

-- the workers left a run that goes on from this one, and the hand of each did what the journal says since
pub record IsWorkedOn {H : Type 0} (tell : H → Telling) (run : Course) (journal : List Entry)
    (before after : List H) : Type 0 where
  pub more : GoesOn run.journal journal
  pub legal : (aim : Aim) → IsLegalRun aim run → IsLegalRun aim (come_to run journal)
  pub left : EveryWorkerLeft (setup_of (come_to run journal)) (reverse journal)
  pub hands : EachPair (λ w x y.
      HasDone w run.limits.deadline run (come_to run journal) (tell x) (tell y)) 0 before after

-- there was no memory to begin: the observation ends with that, and no hand did anything more
pub record IsUnbegun {H : Type 0} (observed : Observed) (journal : List Entry)
    (before after : List H) : Type 0 where
  pub only : journal ≡ Entry.Seen (cut_short observed.exchanges) ∷ []
  pub alone : after ≡ before

-- a plan was carried out by the run's workers, or wasn't begun
abbrev pub AreCarriedOut : {H : Type 0} → (H → Telling) → Declared → Observed → Plan → RunLimits
    → List Entry → List H → List H → Type 0
AreCarriedOut tell declared observed plan limits journal before after =
    IsWorkedOn tell (begun declared observed plan limits) journal before after
    ⊎ IsUnbegun observed journal before after

-- what a worker's hand did by the task's journal
pub record HasRun (task : Task) (journal : List Entry) (w : ℕ) (before now : Telling) : Type 0 where
  pub log : GrowsBy (run_exchanges task journal w) before.log now.log
  pub caused : IsCaused task journal w (account_in before) (account_in now)
  pub timed : IsTimed task journal w before.clock now.clock
  pub read_first : w ≡ 0 → ReadsFirst task.limits.deadline (length before.log) now.clock

-- a whole run of the task was made with the hands, by as many workers
pub record LeavesTogether {H : Type 0} (tell : H → Telling) (task : Task) (journal : List Entry)
    (before after : List H) : Type 0 where
  pub run : IsRun task journal
  pub left : IsLeftByAll task journal
  pub begun : (entry : Entry) × (rest : List Entry) × (journal ≡ entry ∷ rest)
  pub hands : EachPair (λ w x y. HasRun task journal w (tell x) (tell y)) 0 before after
