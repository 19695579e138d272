use Rattle.std.proofs.Common.{◌≡◌, ℕ, List, Option, length}
use Rattle.std.specs.Prelude.{is_some}
use Rattle.ledger_rows.specs.ActionRows.Values.{Actions}
use Rattle.ledger_rows.specs.Counts.{counted}
use Rattle.slot_rows.specs.declared.slot_row.SlotRow.{SlotRow}
use Rattle.ledger_ends.specs.Retiring.{AreSlotsWhile, History, still_asks}
use Rattle.ledger_ends.proofs.retiring.retire_fresh.Given as goal

pub record Retiring (run : History) (rows : Actions) (first fresh : List (Option ℕ)) (slots : List SlotRow) : Type 0 where
  pub size : length fresh ≡ length first
  pub asking : AreSlotsWhile run.setup run.past (still_asks run rows fresh) slots

abbrev pub invariant-loop-action : goal.invariant-loop-action
invariant-loop-action g l = Retiring g.run l.rows l.initial.fresh l.fresh l.slots

abbrev pub decreases-loop-action : goal.decreases-loop-action
decreases-loop-action g l = counted is_some l.fresh
