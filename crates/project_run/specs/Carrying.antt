-- How a plan is carried out from its observation on.
use Rattle.std.specs.Prelude.{◌≡◌, ◌⊎◌, true, List, [], ◌∷◌, reverse}
use Rattle.engine_types.specs.declared.Aim.{Aim}
use Rattle.engine_types.specs.declared.Declared.{Declared}
use Rattle.engine_types.specs.declared.Entry.{Entry}
use Rattle.engine_types.specs.declared.Exchange.{Exchange}
use Rattle.engine_types.specs.declared.Observed.{Observed}
use Rattle.engine_types.specs.declared.Plan.{Plan}
use Rattle.engine_types.specs.declared.RunLimits.{RunLimits}
use Rattle.engine_types.specs.declared.SeenEnd.{SeenEnd}
use Rattle.engine_types.specs.declared.SeenFault.{SeenFault}
use Rattle.journal_laws.specs.Courses.{Course}
use Rattle.journal_laws.specs.Laws.{IsLegalRun}
use Rattle.ledger_core.specs.Beginning.{begun, run_of}
use Rattle.ledger_run.specs.Steps.{exchanges_since, steps_since}
use Rattle.ledger_run.specs.Tellings.{Telling, account_in}
use Rattle.ledger_run.specs.Timing.{IsTimed}
use Rattle.ledger_run.specs.Works.{GoesOn}
use Rattle.outside_api.specs.Accounts.{AreCaused}
use Rattle.run_model.specs.EngineRules.{TellsSteps, exchanges_in}
use Rattle.run_model.specs.Journals.{has_left}
use Rattle.run_model.specs.Logs.{GrowsBy}

-- the same run with this journal
abbrev pub come_to : Course → List Entry → Course
come_to run journal = run_of run.declared run.plan run.limits journal

-- the worker left a run that goes on from this one, and its hand did what the journal says since
pub record IsWorked (run : Course) (journal : List Entry) (before now : Telling) : Type 0 where
  pub more : GoesOn run.journal journal
  pub legal : (aim : Aim) → IsLegalRun aim run → IsLegalRun aim (come_to run journal)
  pub left : has_left (reverse journal) 0 ≡ true
  pub log : GrowsBy (exchanges_since run (come_to run journal)) before.log now.log
  pub told : TellsSteps (steps_since run (come_to run journal)) before.engine now.engine
  pub steps : exchanges_in (steps_since run (come_to run journal))
      ≡ exchanges_since run (come_to run journal)
  pub caused : AreCaused (exchanges_since run (come_to run journal)) (account_in before)
      (account_in now)
  pub timed : IsTimed run.limits.deadline (reverse journal) before.clock now.clock

-- an observation of these exchanges that ended for want of memory
abbrev pub cut_short : List Exchange → Observed
cut_short exchanges = record { exchanges = exchanges; end = SeenEnd.Bad SeenFault.Memory }

-- there was no memory to begin the run: its observation ends with that, and nothing more was done
pub record IsUnbegun (observed : Observed) (journal : List Entry)
    (before now : Telling) : Type 0 where
  pub only : journal ≡ Entry.Seen (cut_short observed.exchanges) ∷ []
  pub alone : now ≡ before

-- a plan was carried out by the run's worker, or wasn't begun
abbrev pub IsCarriedOut :
    Declared → Observed → Plan → RunLimits → List Entry → Telling → Telling → Type 0
IsCarriedOut declared observed plan limits journal before now =
    IsWorked (begun declared observed plan limits) journal before now
    ⊎ IsUnbegun observed journal before now
