use Rattle.std.proofs.Common.{◌≡◌, map, take}
use Rattle.tree_base.specs.ByteOrder.{first_of_each}
use Rattle.named_items.proofs.distinct.firsts.Given as goal

abbrev pub invariant-loop-item : goal.invariant-loop-item
invariant-loop-item g l = record {
  rows : map (λ row. row.now) l.rows.items ≡ first_of_each g.T.Named.known (take l.item-index l.items);
  names : l.names.keys ≡ map g.T.Named.known (map (λ row. row.now) l.rows.items);
}
