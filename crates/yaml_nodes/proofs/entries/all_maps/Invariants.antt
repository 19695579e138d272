use Rattle.std.proofs.Common.{◌≡◌, ◌++◌, drop}
use Rattle.std.specs.Option.{option_map}
use Rattle.yaml_nodes.specs.Mappings.{all_pairs}
use Rattle.yaml_nodes.proofs.entries.all_maps.Given as goal

abbrev pub invariant-loop-tree : goal.invariant-loop-tree
invariant-loop-tree l = option_map (λ more. l.maps ++ more) (all_pairs (drop l.tree-index l.trees)) ≡ all_pairs l.trees
