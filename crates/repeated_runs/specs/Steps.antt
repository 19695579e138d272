-- A step in the runs of a call.
use Rattle.std.specs.Prelude.{◌≡◌, ℕ, ◌+◌, length}
use Rattle.engine_types.specs.declared.Aim.{Aim}
use Rattle.engine_types.specs.declared.Declared.{Declared}
use Rattle.ledger_run.specs.Tellings.{Telling}
use Rattle.outside_api.specs.declared.dial.Dial.{Dial}
use Rattle.plan_core.specs.Order.{HasNoCycle}
use Rattle.repeated_runs.specs.Attempts.{AreAttempts, first_hands}
use Rattle.repeated_runs.specs.Followings.{Underway}
use Rattle.repeated_runs.specs.Moments.{Moment}
use Rattle.repeated_runs.specs.declared.again.Course.{Course}
use Rattle.repeated_runs.specs.declared.again.Step.{Step}
use Rattle.repeated_runs.specs.declared.once.Left.{Left}
use Rattle.run_laws.specs.Orders.{NeedsDependencies}
use Rattle.run_model.specs.Plans.{IsWhole}
use Rattle.run_model.specs.Runs.{Task}
use Rattle.world_laws.specs.OwnSpecs.{HasOwnSpecs}

-- a run of so many workers can be made of what is left
pub record IsFit (workers : ℕ) (left : Left) : Type 0 where
  pub as_many : left.limits.workers ≡ workers
  pub whole : IsWhole left.declared
  pub acyclic : HasNoCycle left.declared
  pub needs : NeedsDependencies left.declared
  pub own : HasOwnSpecs left.declared

-- a step went on with one run more, or the runs are over
abbrev pub Steps : {H : Type 0} → (H → Telling) → (ℕ → Dial → Type 0) → ℕ → Declared → Aim → Task
    → Course H → Step H → Moment → Moment → Type 0
Steps tell Place workers declared aim task course (Step.On next) first now =
    Underway tell Place workers declared aim task next.earlier.items next.once first now
    × (length next.earlier.items ≡ length course.earlier.items + 1)
    × (first_hands next.earlier.items next.once.ended
    ≡ first_hands course.earlier.items course.once.ended)
Steps tell Place workers declared aim task course (Step.Over attempts) first now =
    AreAttempts tell Place workers task attempts first now
    × (first_hands attempts.earlier attempts.last
    ≡ first_hands course.earlier.items course.once.ended)
