use Rattle.std.proofs.Common.{◌≡◌, ◌-◌, ◌+◌, ◌<◌, ℕ, length, sym, ap, ◌∙◌, subst, arith}
use Rattle.engine_types.specs.declared.Action.{Action}
use Rattle.plan_rows.specs.Firsts.{place_of, with_action}
use Rattle.plan_rows.proofs.Entering.{Entered, entered_more}
use Rattle.plan_rows.proofs.action_places.first_rows.Goals as goal

pub loop-at-preserved : goal.loop-at-preserved
loop-at-preserved c =
    let l : c.loop-at.at - 1 < length c.args.actions.now = omega (arith, c.loop-at.invariant.within) in
    let e : (c.loop-at.at - 1) + 1 ≡ c.loop-at.at = omega arith in
    entered_more c.args.row c.args.actions.now c.args.count c.loop-at.places.items c.enter.new.places.items (c.loop-at.at - 1) c.index-actions-at.result l c.index-actions-at.is
    (subst (λ (i : ℕ). Entered c.args.row c.args.actions.now c.args.count c.loop-at.places.items i) (sym e) c.loop-at.invariant) (c.enter.ensures
    ∙ ap (λ (action : Action). with_action c.loop-at.places.items (place_of c.args.row action.kind) (c.loop-at.at - 1)) (sym c.index-actions-at.is))
