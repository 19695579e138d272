use Rattle.std.proofs.Common.{◌≡◌, map, take}
use Rattle.std.specs.Map.{keys_of}
use Rattle.engine_types.specs.declared.Listed.{Listed}
use Rattle.tree_base.specs.ByteOrder.{first_of_each}
use Rattle.observe_project.proofs.listing.first_of_each.Given as goal

abbrev pub invariant-loop-row : goal.invariant-loop-row
invariant-loop-row l = record {
  are : l.distinct ≡ first_of_each (λ (row : Listed). row.id) (take l.row-index l.rows);
  knows : keys_of l.ids ≡ map (λ (row : Listed). row.id) l.distinct;
}
