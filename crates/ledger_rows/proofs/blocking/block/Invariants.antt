use Rattle.std.proofs.Common.{take}
use Rattle.ledger_rows.specs.Rows.{Blocks}
use Rattle.ledger_rows.proofs.blocking.block.Given as goal

abbrev pub invariant-loop-action : goal.invariant-loop-action
invariant-loop-action l = Blocks (take l.action-index l.stopped) l.initial.rows l.rows l.initial.pending l.pending
