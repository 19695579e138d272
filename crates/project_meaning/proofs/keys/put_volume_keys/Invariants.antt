use Rattle.std.proofs.Common.{◌≡◌, ◌++◌, map, take}
use Rattle.project_meaning.proofs.keys.put_volume_keys.Given as goal

abbrev pub invariant-loop-volume : goal.invariant-loop-volume
invariant-loop-volume l = l.keys.items ≡ l.fn.keys.items ++ map (λ volume. volume.key) (take l.volume-index l.volumes)
