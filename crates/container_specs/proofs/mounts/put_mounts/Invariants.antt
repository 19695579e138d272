use Rattle.std.proofs.Common.{◌≡◌, ◌++◌, take}
use Rattle.container_specs.specs.Mounts.{mount_binds}
use Rattle.container_specs.proofs.mounts.put_mounts.Given as goal

abbrev pub invariant-loop-mount : goal.invariant-loop-mount
invariant-loop-mount l = l.binds ≡ l.fn.binds ++ mount_binds l.project (take l.mount-index l.mounts)
