use Rattle.slot_rows.proofs.Opening.{Opened}
use Rattle.slot_rows.proofs.slot_rows.SlotRows.new.Given as goal

abbrev pub invariant-loop-at : goal.invariant-loop-at
invariant-loop-at l = Opened l.rows.items l.watch l.at
