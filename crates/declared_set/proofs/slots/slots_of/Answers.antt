use Rattle.std.proofs.Common.{◌∙◌, ◌<◌, arith, length}
use Rattle.declared_set.specs.Slots.{slots_in}
use Rattle.declared_set.proofs.Grounds.{flat_more}
use Rattle.declared_set.proofs.slots.slots_of.Goals as goal

pub loop-service-preserved : goal.loop-service-preserved
loop-service-preserved c =
    let within : c.loop-service.service-index < length c.as_slice-services.result.now = omega arith in
    flat_more (slots_in c.args.ground.now.loaded.now c.args.scales.now c.args.ground.now.digests.now) c.as_slice-services.result.now c.loop-service.service-index c.service-item.result
    c.loop-service.slots c.put_slots_in.new.slots within c.service-item.is c.loop-service.invariant c.in_ok-put_slots_in.ensures
