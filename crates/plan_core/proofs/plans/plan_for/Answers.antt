-- What is planned is planned from what was handed in.
use Rattle.std.proofs.Common.{◌≡◌, ℕ, true, false, Err, subst}
use Rattle.std.specs.Prelude.{IfOk}
use Rattle.plan_core.specs.declared.refusal.PlanRefusal.{PlanRefusal}
use Rattle.run_model.specs.Plans.{AreKeptPlaces, Basis, action_count, is_too_long, planned}
use Rattle.plan_core.proofs.plans.plan_for.Goals as goal

pub returns-clause-planned : goal.returns-clause-planned
returns-clause-planned c = subst (λ (basis : Basis). IfOk c.plan.result (λ plan. plan.actions ≡ planned basis)) c.in_ok-planner.ensures c.plan.ensures.planned

pub returns-clause-fits : goal.returns-clause-fits
returns-clause-fits c = subst (λ (basis : Basis). IfOk c.plan.result (λ plan. is_too_long basis ≡ false)) c.in_ok-planner.ensures c.plan.ensures.fits

pub returns-clause-too_many : goal.returns-clause-too_many
returns-clause-too_many c =
    subst (λ (basis : Basis). (count : ℕ) → c.plan.result ≡ Err (PlanRefusal.TooManyActions count) → (is_too_long basis ≡ true) × (count ≡ action_count basis))
    c.in_ok-planner.ensures c.plan.ensures.too_many

pub returns-clause-kept : goal.returns-clause-kept
returns-clause-kept c = subst (λ (basis : Basis). IfOk c.plan.result (λ plan. AreKeptPlaces basis.declared basis.seen plan.kept)) c.in_ok-planner.ensures c.plan.ensures.kept
