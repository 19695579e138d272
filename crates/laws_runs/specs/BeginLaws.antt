-- Laws of the beginning of a run.
use Rattle.std.specs.Prelude.{◌≡◌, ℕ, true, is_some}
use Rattle.engine_types.specs.declared.Aim.{Aim}
use Rattle.engine_types.specs.declared.Declared.{Declared}
use Rattle.engine_types.specs.declared.Observed.{Observed}
use Rattle.engine_types.specs.declared.Plan.{Plan}
use Rattle.engine_types.specs.declared.RunLimits.{RunLimits}
use Rattle.run_model.specs.Ending.{EveryWorkerLeft, IsRunOver}
use Rattle.run_model.specs.Legal.{Look, Take}
use Rattle.run_model.specs.Plans.{HasPlan}
use Rattle.run_model.specs.Requests.{action_request, poll_request}
use Rattle.journal_laws.specs.Courses.{Course, MayAsk, entries, setup_of}
use Rattle.journal_laws.specs.Laws.{IsLegalRun, decided}
use Rattle.ledger_core.specs.Beginning.{MayBegin}
use Rattle.laws_runs.specs.Begun.{BeganWith}
use Rattle.laws_runs.specs.Preparing.{IsPrepared}

-- a run may begin with what is prepared for it
abbrev pub RunsMayBegin : Type 0
RunsMayBegin = (declared : Declared) (observed : Observed) (plan : Plan) (limits : RunLimits)
    → IsPrepared declared observed plan limits → MayBegin declared observed plan limits

-- whatever the entries of a run are, it is of what its observation saw, and has a plan for its aim
abbrev pub BegunRunsHavePlans : Type 0
BegunRunsHavePlans = (observed : Observed) (run : Course) (began : BeganWith observed run)
    → ((setup_of run).seen ≡ began.may.seen)
    × HasPlan (record {
      declared = run.declared;
      seen = (setup_of run).seen;
      aim = began.may.aim;
    }) run.plan.actions

-- whatever a worker that asks is granted has a request
pub record BegunGrantsHaveRequests : Type 0 where
  pub actions : (observed : Observed) (run : Course) (w a : ℕ) (began : BeganWith observed run)
      → IsLegalRun began.may.aim run → MayAsk run w → decided run w ≡ Take a
      → is_some (action_request (setup_of run) (entries run) a) ≡ true
  pub polls : (observed : Observed) (run : Course) (w s : ℕ) (began : BeganWith observed run)
      → IsLegalRun began.may.aim run → MayAsk run w → decided run w ≡ Look s
      → is_some (poll_request (setup_of run) (entries run) s) ≡ true

-- a legal run that every worker has left is over
abbrev pub BegunRunsEnd : Type 0
BegunRunsEnd = (aim : Aim) (observed : Observed) (run : Course) → BeganWith observed run
    → IsLegalRun aim run → EveryWorkerLeft (setup_of run) (entries run)
    → IsRunOver (setup_of run) (entries run)
