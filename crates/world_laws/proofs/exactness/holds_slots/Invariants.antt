use Rattle.std.proofs.Common.{◌≡◌, true, map, take, Bor}
use Rattle.std.specs.List.{list_all}
use Rattle.engine_types.specs.declared.ContainerRow.{ContainerRow}
use Rattle.world_laws.specs.Exactly.{holds_slot}
use Rattle.world_laws.proofs.exactness.holds_slots.Given as goal

abbrev pub invariant-loop-slot : goal.invariant-loop-slot
invariant-loop-slot l = list_all (holds_slot l.declared l.engine (map (λ (row : Bor ContainerRow). row.now) l.rows)) (take l.slot-index l.slot-items) ≡ true
