use Rattle.std.proofs.Common.{◌≡◌, take}
use Rattle.std.specs.List.{sum_by}
use Rattle.declared_slots.specs.Needs.{bounded, needs_in}
use Rattle.declared_slots.proofs.waits.need_count.Given as goal

abbrev pub invariant-loop-service : goal.invariant-loop-service
invariant-loop-service l = l.count ≡ bounded (sum_by (needs_in l.ranges) (take l.service-index l.services))
