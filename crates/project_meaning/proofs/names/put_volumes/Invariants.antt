use Rattle.std.proofs.Common.{◌≡◌, ◌++◌, take}
use Rattle.std.specs.List.{flat_map}
use Rattle.project_meaning.specs.Completing.{volume_of_mount}
use Rattle.project_meaning.proofs.names.put_volumes.Given as goal

abbrev pub invariant-loop-mount : goal.invariant-loop-mount
invariant-loop-mount l = l.names.items ≡ l.fn.names.items ++ flat_map (λ mount. volume_of_mount mount.kind mount.source) (take l.mount-index l.list)
