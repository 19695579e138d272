use Rattle.std.proofs.Common.{◌≡◌, ◌++◌, take}
use Rattle.container_specs.specs.Mounts.{file_binds}
use Rattle.container_specs.proofs.mounts.put_files.Given as goal

abbrev pub invariant-loop-file : goal.invariant-loop-file
invariant-loop-file l = l.binds ≡ l.fn.binds ++ file_binds l.items (take l.file-index l.files)
