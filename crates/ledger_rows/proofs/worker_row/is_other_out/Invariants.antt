use Rattle.std.proofs.Common.{◌≡◌, ◌==◌, ◌&&◌, not, get_or, ℕ, ◌<◌, false}
use Rattle.ledger_rows.specs.Workers.{no_worker}
use Rattle.ledger_rows.proofs.worker_row.is_other_out.Given as goal

abbrev pub invariant-loop-other : goal.invariant-loop-other
invariant-loop-other l = (k : ℕ) → k < l.other → (not (k == l.worker) && (get_or l.workers k no_worker).out) ≡ false
