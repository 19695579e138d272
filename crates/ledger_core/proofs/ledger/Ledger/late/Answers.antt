use Rattle.std.proofs.Common.{◌≡◌, ◌<◌, ◌≤◌, ◌∷◌, ◌++◌, [], length, set, get_or, true, false, sym, ap, ◌∙◌, subst, arith}
use Rattle.std.specs.Prelude.{IsSomeAnd}
use Rattle.engine_types.specs.declared.Entry.{Entry}
use Rattle.engine_types.specs.declared.LateWhy.{LateWhy}
use Rattle.engine_types.specs.declared.Seen.{Seen}
use Rattle.run_model.specs.Journals.{has_stopped}
use Rattle.journal_laws.specs.Courses.{Course, MayAsk, entries, first_seen}
use Rattle.ledger_rows.specs.Workers.{no_worker}
use Rattle.ledger_rows.specs.declared.worker_row.WorkerRow.{WorkerRow}
use Rattle.ledger_core.specs.Ledgers.{IsLedger, IsPlanned}
use Rattle.ledger_core.proofs.Stopping.{by_late, may_push, row_read, seen_kept, stopped}
use Rattle.ledger_ends.specs.Losses.{HasNoLosses}
use Rattle.ledger_core.proofs.ledger.Ledger.late.Goals as goal

pub unwrap-requires : goal.unwrap-requires
unwrap-requires c =
    let ready = subst (λ (r : Course). MayAsk r c.args.worker) (sym c.self.view_is) c.requires.may.ready in
    let first = subst (λ (r : Course). has_stopped (entries r) c.args.worker ≡ false) (sym c.self.view_is) c.requires.may.first_time in
    c.push.ensures.succeeds (may_push _ _ _ _ _ _ c.self.invariant.0 c.args.worker ready first)

pub invariant_of-self : goal.invariant_of-self
invariant_of-self c =
    let ready = subst (λ (r : Course). MayAsk r c.args.worker) (sym c.self.view_is) c.requires.may.ready in
    let first = subst (λ (r : Course). has_stopped (entries r) c.args.worker ≡ false) (sym c.self.view_is) c.requires.may.first_time in
    let late = subst (λ (r : Course). IsSomeAnd r.limits.deadline (λ deadline. deadline ≤ c.args.reading)) (sym c.self.view_is) c.requires.late in
    let items : c.push.new.self.items ≡ c.self.inside.journal.items ++ Entry.Late c.args.worker (LateWhy.Deadline c.args.reading) ∷ [] = rw c.unwrap.ensures at c.push.ensures.ok in
    let seen : first_seen c.push.new.self.items ≡ first_seen c.self.inside.journal.items = ap first_seen items ∙ seen_kept c.self.inside.journal.items (Entry.Late c.args.worker (LateWhy.Deadline c.args.reading)) c.self.invariant.0.begun in
    let below : c.args.worker < length c.self.inside.workers.items = let a = ready.below in let b = c.self.invariant.0.workers_size in omega (arith, a, b) in
    let row : c.index_mut-row.result.now ≡ get_or c.self.inside.workers.items c.args.worker no_worker = row_read c.self.inside.workers.items c.args.worker c.index_mut-row.result.now below c.index_mut-row.ensures.value in (
      subst (λ (s : Seen). IsLedger (record { declared = c.self.inside.declared; seen = s; actions = c.self.inside.plan.actions; limits = c.self.inside.limits }) c.push.new.self c.self.inside.rows c.self.inside.slots
          (set c.self.inside.workers.items c.args.worker (record { out = c.index_mut-row.result.now.out; left = c.index_mut-row.result.now.left; stopped = true })) true) (sym seen)
          (subst (λ (r : WorkerRow). IsLedger (record { declared = c.self.inside.declared; seen = first_seen c.self.inside.journal.items; actions = c.self.inside.plan.actions; limits = c.self.inside.limits }) c.push.new.self c.self.inside.rows c.self.inside.slots
          (set c.self.inside.workers.items c.args.worker (record { out = r.out; left = r.left; stopped = true })) true) (sym row)
          (stopped _ _ _ _ _ _ c.self.invariant.0 c.args.worker ready first (Entry.Late c.args.worker (LateWhy.Deadline c.args.reading)) (by_late _ _ _ _ _ _ c.self.invariant.0 c.args.worker ready first c.args.reading late) c.push.new.self items c.push.ensures.spare)),
      subst (λ (s : Seen). IsPlanned (record { declared = c.self.inside.declared; seen = s; actions = c.self.inside.plan.actions; limits = c.self.inside.limits }) c.self.inside.plan.kept c.self.inside.dependents c.self.inside.places) (sym seen) c.self.invariant.1,
      subst (λ (s : Seen). HasNoLosses (record { declared = c.self.inside.declared; seen = s; actions = c.self.inside.plan.actions; limits = c.self.inside.limits }) c.self.inside.losses) (sym seen) c.self.invariant.2,
    )
