use Rattle.std.proofs.Common.{◌≡◌, ◌++◌, drop}
use Rattle.yaml_nodes.specs.Mappings.{added}
use Rattle.yaml_nodes.proofs.added.put_added.Given as goal

abbrev pub invariant-loop-map : goal.invariant-loop-map
invariant-loop-map l = l.own ++ added l.own (drop l.map-index l.maps) ≡ l.initial.own ++ added l.initial.own l.maps
