use Rattle.std.proofs.Common.{◌≡◌, ◌++◌, take}
use Rattle.yaml_nodes.specs.Mappings.{new_pairs}
use Rattle.yaml_nodes.proofs.added.put_new.Given as goal

abbrev pub invariant-loop-at : goal.invariant-loop-at
invariant-loop-at l = l.own ≡ l.initial.own ++ new_pairs l.initial.own (take l.at l.more)
