use Rattle.std.proofs.Common.{◌≡◌, ℕ, Bool, List, true, false, Err, subst, sym, ◌∙◌}
use Rattle.std.specs.Prelude.{IfOk}
use Rattle.engine_types.specs.declared.Action.{Action}
use Rattle.plan_core.specs.declared.refusal.PlanRefusal.{PlanRefusal}
use Rattle.run_model.specs.Plans.{Basis, action_count, is_too_long}
use Rattle.run_model.specs.Rolling.{run_actions}
use Rattle.project_run.proofs.PlansOfAims.{down_is, down_unrolled, up_count, up_length, up_rolled}
use Rattle.project_run.proofs.opening.plan_by.Goals as goal

pub returns-in-Up-clause-planned : goal.returns-in-Up-clause-planned
returns-in-Up-clause-planned c = subst (λ (actions : List Action). IfOk c.rolled_up.result (λ plan. plan.actions ≡ actions))
    (up_rolled c.args.declared.now c.args.seen.now c.args.aim c.in-Up.is) c.rolled_up.ensures.planned

pub returns-in-Up-clause-fits : goal.returns-in-Up-clause-fits
returns-in-Up-clause-fits c = subst (λ (long : Bool). IfOk c.rolled_up.result (λ plan. long ≡ false))
    (up_length c.args.declared.now c.args.seen.now c.args.aim c.in-Up.is) c.rolled_up.ensures.fits

pub returns-in-Up-clause-too_many : goal.returns-in-Up-clause-too_many
returns-in-Up-clause-too_many c = λ count refused.
    let many = c.rolled_up.ensures.too_many count refused in (
      sym (up_length c.args.declared.now c.args.seen.now c.args.aim c.in-Up.is) ∙ many.0,
      many.1 ∙ up_count c.args.declared.now c.args.seen.now c.args.aim c.in-Up.is,
    )

pub returns-in-Down-clause-planned : goal.returns-in-Down-clause-planned
returns-in-Down-clause-planned c = subst (λ (basis : Basis). IfOk c.plan_down.result (λ plan. plan.actions ≡ run_actions basis))
    (down_is c.args.declared.now c.args.seen.now c.args.aim c.in-Down.is)
    (subst (λ (actions : List Action). IfOk c.plan_down.result (λ plan. plan.actions ≡ actions))
    (sym (down_unrolled c.args.declared.now c.args.seen.now c.args.aim.orphans c.args.aim.volumes)) c.plan_down.ensures.planned)

pub returns-in-Down-clause-fits : goal.returns-in-Down-clause-fits
returns-in-Down-clause-fits c = subst (λ (basis : Basis). IfOk c.plan_down.result (λ plan. is_too_long basis ≡ false))
    (down_is c.args.declared.now c.args.seen.now c.args.aim c.in-Down.is) c.plan_down.ensures.fits

pub returns-in-Down-clause-too_many : goal.returns-in-Down-clause-too_many
returns-in-Down-clause-too_many c = subst
    (λ (basis : Basis). (count : ℕ) → c.plan_down.result ≡ Err (PlanRefusal.TooManyActions count) → (is_too_long basis ≡ true) × (count ≡ action_count basis))
    (down_is c.args.declared.now c.args.seen.now c.args.aim c.in-Down.is) c.plan_down.ensures.too_many
