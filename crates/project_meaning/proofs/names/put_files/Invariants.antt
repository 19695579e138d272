use Rattle.std.proofs.Common.{◌≡◌, ◌++◌, map, take}
use Rattle.project_meaning.proofs.names.put_files.Given as goal

abbrev pub invariant-loop-file : goal.invariant-loop-file
invariant-loop-file l = l.names.items ≡ l.fn.names.items ++ map (λ file. file.source) (take l.file-index l.list)
