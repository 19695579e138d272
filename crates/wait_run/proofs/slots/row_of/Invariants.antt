use Rattle.std.proofs.Common.{◌≡◌, drop}
use Rattle.std.specs.Option.{option_copied}
use Rattle.std.specs.Prelude.{filter}
use Rattle.run_model.specs.Labels.{is_of_slot}
use Rattle.tree_base.specs.ByteOrder.{least_by}
use Rattle.wait_run.proofs.slots.row_of.Given as goal

-- the least of the rows that were looked at, from the last one on
abbrev pub invariant-loop-at : goal.invariant-loop-at
invariant-loop-at l = option_copied l.least ≡ least_by (λ row. row.id) (filter (λ row. is_of_slot l.project l.slot row.labels) (drop l.at l.rows))
