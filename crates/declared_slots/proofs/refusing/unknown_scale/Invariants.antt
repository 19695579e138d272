use Rattle.std.proofs.Common.{◌≡◌, drop, not}
use Rattle.std.specs.Prelude.{find}
use Rattle.std.specs.Map.{keys_of}
use Rattle.attribute_scalars.specs.Walks.{is_in}
use Rattle.declared_slots.proofs.refusing.unknown_scale.Given as goal

abbrev pub invariant-loop-scale : goal.invariant-loop-scale
invariant-loop-scale l =
    find (λ scale. not (is_in (keys_of l.ranges) scale.service)) (drop l.scale-index l.scales)
    ≡ find (λ scale. not (is_in (keys_of l.ranges) scale.service)) l.scales
