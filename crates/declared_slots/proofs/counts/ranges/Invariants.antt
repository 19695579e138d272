use Rattle.std.proofs.Common.{◌≡◌, take}
use Rattle.std.specs.List.{sum_by}
use Rattle.declared_slots.specs.Counts.{ranges_of, scale_of}
use Rattle.declared_slots.proofs.counts.ranges.Given as goal

abbrev pub invariant-loop-service : goal.invariant-loop-service
invariant-loop-service l =
    (l.ranges ≡ take l.service-index (ranges_of l.scales l.services))
    × (l.first ≡ sum_by (scale_of l.scales) (take l.service-index l.services))
