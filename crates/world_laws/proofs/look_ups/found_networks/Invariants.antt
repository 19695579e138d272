use Rattle.std.proofs.Common.{◌≡◌, map, take, Bor}
use Rattle.std.specs.Map.{keys_of}
use Rattle.engine_types.specs.declared.NetRow.{NetRow}
use Rattle.tree_base.specs.ByteOrder.{first_of_each}
use Rattle.world_laws.proofs.look_ups.found_networks.Given as goal

abbrev pub invariant-loop-row : goal.invariant-loop-row
invariant-loop-row l = record {
  are : map (λ (r : Bor NetRow). r.now) l.found.items ≡ first_of_each (λ (row : NetRow). row.id) (take l.row-index l.row-items);
  knows : keys_of l.ids ≡ map (λ (row : NetRow). row.id) (map (λ (r : Bor NetRow). r.now) l.found.items);
}
