-- A place more.
use Rattle.plan_core.specs.Keeping.{id_in}
use Rattle.plan_core.proofs.Index.{places_turn}
use Rattle.plan_core.proofs.keeping.kept_under.Goals as goal

pub loop-at-preserved : goal.loop-at-preserved
loop-at-preserved c =
    places_turn (id_in c.args.seen.now) c.args.kept.now c.loop-at.at c.loop-at.entries.items _ c.loop-at.invariant c.in_ok-push_kept.ensures
