-- An action of the plan has its needs by the plan.
use Rattle.std.proofs.Common.{◌≡◌, ◌<◌, List, get_or, length, subst}
use Rattle.engine_types.specs.declared.Action.{Action}
use Rattle.rolling_update.proofs.Joining.{needs_here}
use Rattle.rolling_update.proofs.adding.all_rolled.Goals as goal

pub needs_of-requires : goal.needs_of-requires
needs_of-requires c =
    needs_here c.args.table.now c.loop-action.action-index c.action-item.result
    c.requires.needs (subst (λ (actions : List Action). c.loop-action.action-index < length actions) c.requires.same c.loop-action-test.true)
    (subst (λ (actions : List Action). c.action-item.result ≡ get_or actions c.loop-action.action-index c.action-item.result) c.requires.same c.action-item.is)
