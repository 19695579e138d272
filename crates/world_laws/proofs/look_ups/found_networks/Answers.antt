-- One row more.
use Rattle.std.proofs.Common.{refl, Bor}
use Rattle.std.specs.Map.{keys_of}
use Rattle.engine_types.specs.declared.NetRow.{NetRow}
use Rattle.world_laws.proofs.FoundRows.{known_row, new_row}
use Rattle.world_laws.proofs.look_ups.found_networks.Goals as goal
use Rattle.world_laws.proofs.look_ups.found_networks.Goals.{then-branch+in_ok-push, else-branch}

pub loop-row-preserved : goal.loop-row-preserved
loop-row-preserved c =
    elim c.if-branch.branch [
      | then-branch+in_ok-push w ↦
          let r = new_row (λ (b : Bor NetRow). b.now) (λ (row : NetRow). row.id) c.as_slice-row-items.result.now c.loop-row.row-index c.row-item.result c.loop-row.found.items (keys_of c.loop-row.ids)
          (keys_of c.is_new.new.ids) c.in_ok-is_new.field-0 c.loop-row-test.true c.row-item.is c.loop-row.invariant.are c.loop-row.invariant.knows c.in_ok-is_new.ensures.new c.in_ok-is_new.ensures.known
          c.if-branch.found w.push.new.self (λ v. v.items) _ w.found-is w.in_ok-push.ensures.items refl w.if-branch.true
          in
          record { are = r.0; knows = r.1 }
      | else-branch w ↦
          let r = known_row (λ (b : Bor NetRow). b.now) (λ (row : NetRow). row.id) c.as_slice-row-items.result.now c.loop-row.row-index c.row-item.result c.loop-row.found.items (keys_of c.loop-row.ids)
          (keys_of c.is_new.new.ids) c.in_ok-is_new.field-0 c.loop-row-test.true c.row-item.is c.loop-row.invariant.are c.loop-row.invariant.knows c.in_ok-is_new.ensures.new c.in_ok-is_new.ensures.known
          c.if-branch.found c.loop-row.found (λ v. v.items) w.found-is refl w.if-branch.false
          in
          record { are = r.0; knows = r.1 }
    ]
