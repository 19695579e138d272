-- A bind more.
use Rattle.std.proofs.Common.{ℕ, ◌==◌}
use Rattle.std.specs.List.{before_first}
use Rattle.plan_core.proofs.Index.{texts_turn}
use Rattle.plan_core.proofs.finding.push_sources.Goals as goal

pub loop-bind-preserved : goal.loop-bind-preserved
loop-bind-preserved c =
    texts_turn (before_first (λ (byte : ℕ). byte == 58)) c.args.binds.now c.loop-bind.bind-index c.bind-item.result c.loop-bind-test.true c.bind-item.is
    c.args.texts.now.items c.loop-bind.texts.items _ c.source_of.result c.loop-bind.invariant c.in_ok-push.ensures.items c.source_of.ensures
