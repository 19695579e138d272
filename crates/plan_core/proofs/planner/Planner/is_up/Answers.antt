-- The purpose is the plan's.
use Rattle.std.proofs.Common.{◌≡◌, true, false, ap, subst, sym}
use Rattle.run_model.specs.Observation.{is_up}
use Rattle.run_model.specs.Plans.{Basis}
use Rattle.plan_core.proofs.planner.Planner.is_up.Goals as goal

pub returns-in-Up : goal.returns-in-Up
returns-in-Up c = subst (λ (b : Basis). true ≡ is_up b.aim.purpose) c.self.view_is (sym (ap is_up c.in-Up.is))

pub returns-in-Down : goal.returns-in-Down
returns-in-Down c = subst (λ (b : Basis). false ≡ is_up b.aim.purpose) c.self.view_is (sym (ap is_up c.in-Down.is))
