use Rattle.std.proofs.Common.{◌≡◌, map, take}
use Rattle.declared_resources.specs.Resources.{volume_spec}
use Rattle.declared_resources.proofs.rows.volume_specs.Given as goal

abbrev pub invariant-loop-volume : goal.invariant-loop-volume
invariant-loop-volume l = l.specs ≡ map (volume_spec l.project) (map (λ volume. volume.now) (take l.volume-index l.volumes))
