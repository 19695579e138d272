-- A place more.
use Rattle.plan_core.specs.Finding.{texts_of}
use Rattle.plan_core.proofs.Index.{places_turn}
use Rattle.plan_core.proofs.planner.Planner.actions_under.Goals as goal

pub loop-at-preserved : goal.loop-at-preserved
loop-at-preserved c =
    places_turn (texts_of c.args.self.now) c.args.kinds.now c.loop-at.at c.loop-at.entries.items _ c.loop-at.invariant c.in_ok-push_action.ensures
