use Rattle.std.proofs.Common.{◌≡◌, filter, map, take}
use Rattle.container_specs.specs.Mounts.{is_unnamed}
use Rattle.container_specs.proofs.mounts.unnamed_in.Given as goal

abbrev pub invariant-loop-mount : goal.invariant-loop-mount
invariant-loop-mount l = l.targets ≡ map (λ mount. mount.target) (filter (λ mount. is_unnamed mount.kind mount.source) (take l.mount-index l.mounts))
