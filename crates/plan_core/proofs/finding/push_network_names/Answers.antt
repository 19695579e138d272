-- A network more.
use Rattle.run_model.specs.Plans.{network_name}
use Rattle.plan_core.proofs.Index.{texts_turn}
use Rattle.plan_core.proofs.finding.push_network_names.Goals as goal

pub loop-attach-preserved : goal.loop-attach-preserved
loop-attach-preserved c =
    texts_turn (network_name c.args.declared.now) c.args.attaches.now c.loop-attach.attach-index c.attach-item.result c.loop-attach-test.true c.attach-item.is
    c.args.texts.now.items c.loop-attach.texts.items _ c.network_name.result c.loop-attach.invariant c.in_ok-push.ensures.items c.network_name.ensures
