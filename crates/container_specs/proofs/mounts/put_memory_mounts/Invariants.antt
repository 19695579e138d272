use Rattle.std.proofs.Common.{◌≡◌, ◌++◌, [], filter, map, take}
use Rattle.container_specs.specs.Mounts.{is_in_memory}
use Rattle.container_specs.proofs.mounts.put_memory_mounts.Given as goal

abbrev pub invariant-loop-mount : goal.invariant-loop-mount
invariant-loop-mount l =
    l.paths ≡ l.fn.paths ++ map (λ mount. record { name = mount.target; value = [] }) (filter (λ mount. is_in_memory mount.kind) (take l.mount-index l.mounts))
