use Rattle.std.proofs.Common.{◌≡◌, ◌≤◌, take}
use Rattle.ledger_rows.specs.Counts.{counted}
use Rattle.start_rows.specs.Firsts.{keeps_first}
use Rattle.start_rows.proofs.lacks.keeping.Given as goal

abbrev pub invariant-loop-need : goal.invariant-loop-need
invariant-loop-need l = record {
  few : l.count ≤ l.need-index;
  so_far : l.count ≡ counted (keeps_first l.starts) (take l.need-index l.needs);
}
