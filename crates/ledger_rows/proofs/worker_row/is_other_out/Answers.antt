use Rattle.std.proofs.Common.{◌≡◌, ◌==◌, ◌&&◌, not, get_or, length, Bool, true, sym, ap, ◌∙◌, arith}
use Rattle.ledger_rows.specs.Workers.{no_worker}
use Rattle.ledger_rows.proofs.Watching.{differs, none_of, one_of}
use Rattle.ledger_rows.proofs.worker_row.is_other_out.Goals as goal

pub returns-then-row : goal.returns-then-row
returns-then-row c =
    let k : (not (c.loop-other.other == c.args.worker) && (get_or c.args.workers.now c.loop-other.other no_worker).out) ≡ true =
    ap (λ (t : Bool). not t && (get_or c.args.workers.now c.loop-other.other no_worker).out) (differs c.loop-other.other c.args.worker c.if-other-worker.true) ∙ c.if-row.true in
    sym (one_of (λ v. not (v == c.args.worker) && (get_or c.args.workers.now v no_worker).out) 0 (length c.args.workers.now) c.loop-other.other (omega arith) (omega arith) k)

pub returns : goal.returns
returns c = sym (none_of (λ v. not (v == c.args.worker) && (get_or c.args.workers.now v no_worker).out) 0 (length c.args.workers.now) (λ k l m. c.loop-other.invariant k (omega (arith, m))))
