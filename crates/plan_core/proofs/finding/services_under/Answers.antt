-- A service more.
use Rattle.std.proofs.Common.{[], ◌∷◌}
use Rattle.plan_core.proofs.Index.{places_turn}
use Rattle.plan_core.proofs.finding.services_under.Goals as goal

pub loop-at-preserved : goal.loop-at-preserved
loop-at-preserved c =
    places_turn (λ service. service.key ∷ []) c.args.declared.now.services c.loop-at.at c.loop-at.entries.items _ c.loop-at.invariant c.in_ok-push_service.ensures
