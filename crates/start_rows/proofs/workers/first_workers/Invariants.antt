use Rattle.std.proofs.Common.{◌≡◌, replicate}
use Rattle.ledger_rows.specs.Workers.{no_worker}
use Rattle.start_rows.proofs.workers.first_workers.Given as goal

abbrev pub invariant-loop : goal.invariant-loop
invariant-loop l = l.rows.items ≡ replicate l.counter no_worker
