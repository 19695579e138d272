use Rattle.std.proofs.Common.{◌≡◌, ◌++◌, codes, take}
use Rattle.std.specs.List.{flat_map}
use Rattle.declared_set.specs.Labels.{dependency_text}
use Rattle.declared_set.proofs.dependencies.push_later.Given as goal

abbrev pub invariant-loop-dependency : goal.invariant-loop-dependency
invariant-loop-dependency l = l.text ≡ l.fn.text ++ flat_map (λ later. codes "," ++ dependency_text later) (take l.dependency-index l.dependencies)
