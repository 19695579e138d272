use Rattle.std.proofs.Common.{◌≡◌, drop}
use Rattle.tree_base.specs.declared.Tree.{out-Tree}
use Rattle.attribute_scalars.specs.Walks.{each_item}
use Rattle.attribute_scalars.proofs.Walks.{ItemsBehind}
use Rattle.attribute_rows.specs.Rows.{in_mapping, port_of}
use Rattle.attribute_rows.proofs.ports.ports_in.Given as goal

abbrev pub invariant-loop-at : goal.invariant-loop-at
invariant-loop-at l =
    ItemsBehind (λ item. in_mapping port_of (out-Tree item)) l.list l.at (drop l.at l.items)
    ≡ each_item (λ item. in_mapping port_of (out-Tree item)) 0 l.items
