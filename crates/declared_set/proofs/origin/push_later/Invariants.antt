use Rattle.std.proofs.Common.{◌≡◌, ◌++◌, codes, take}
use Rattle.std.specs.List.{flat_map}
use Rattle.declared_set.proofs.origin.push_later.Given as goal

abbrev pub invariant-loop-file : goal.invariant-loop-file
invariant-loop-file l = l.text ≡ l.fn.text ++ flat_map (λ path. codes "," ++ path) (take l.file-index l.files)
