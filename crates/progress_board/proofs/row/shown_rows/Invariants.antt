use Rattle.std.proofs.Common.{◌≡◌, take}
use Rattle.progress_board.specs.Lines.{rows_line}
use Rattle.progress_board.proofs.row.shown_rows.Given as goal

abbrev pub invariant-loop-row : goal.invariant-loop-row
invariant-loop-row l = l.line ≡ rows_line l.now (take l.row-index l.rows)
