-- The ends of one container more.
use Rattle.std.proofs.Common.{take, refl}
use Rattle.std.proofs.lemmas.List.{take_more}
use Rattle.run_model.specs.Plans.{is_wanted}
use Rattle.plan_core.specs.Rows.{ends_of}
use Rattle.plan_core.proofs.Rows.{lists_turn}
use Rattle.plan_core.proofs.planner.Planner.push_removals.Goals as goal

pub loop-container-preserved : goal.loop-container-preserved
loop-container-preserved c =
    let order = c.args.order.now in
    lists_turn (is_wanted c.args.self.now) c.args.kinds.now ends_of (take c.loop-container.container-index order) _ (take _ order) c.loop-container.kinds _ _ c.loop-container.invariant
    c.in_ok-push_ends.ensures refl (take_more order c.loop-container.container-index 0 c.loop-container-test.true)
