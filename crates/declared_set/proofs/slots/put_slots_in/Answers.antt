use Rattle.declared_set.proofs.Grounds.{slots_put}
use Rattle.declared_set.proofs.slots.put_slots_in.Goals as goal

pub returns : goal.returns
returns c =
    slots_put c.args.scales.now c.args.ground.now c.args.service.now c.requires.ground c.args.slots.now c.put_slots.new.slots c.in_ok-common.common c.in_ok-count.count
    c.in_ok-common.ensures c.in_ok-count.ensures c.in_ok-put_slots.ensures
