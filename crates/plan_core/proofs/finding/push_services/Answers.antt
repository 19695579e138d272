-- A service more.
use Rattle.std.proofs.Common.{get_or}
use Rattle.plan_core.specs.Finding.{service_key_at}
use Rattle.plan_core.proofs.Index.{texts_turn}
use Rattle.plan_core.proofs.Loops.{get_or_same}
use Rattle.plan_core.proofs.finding.push_services.Goals as goal

pub loop-service-preserved : goal.loop-service-preserved
loop-service-preserved c =
    let services = c.args.services.now in
    let i = c.loop-service.service-index in
    texts_turn (service_key_at c.args.declared.now) services i (get_or services i 0) c.loop-service-test.true (get_or_same services i 0 (get_or services i 0) c.loop-service-test.true)
    c.args.texts.now.items c.loop-service.texts.items _ c.service_key_at.result c.loop-service.invariant c.in_ok-push.ensures.items c.service_key_at.ensures
