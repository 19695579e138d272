use Rattle.std.proofs.Common.{◌≡◌, ◌<◌, ◌∷◌, ◌++◌, ◌||◌, [], length, set, get_or, Bool, true, sym, ap, ◌∙◌, subst, arith}
use Rattle.engine_types.specs.declared.Seen.{Seen}
use Rattle.run_model.specs.Journals.{is_ending}
use Rattle.journal_laws.specs.Courses.{Course, MayAsk, entries, first_seen, setup_of}
use Rattle.ledger_rows.specs.Workers.{no_worker}
use Rattle.ledger_rows.specs.declared.worker_row.WorkerRow.{WorkerRow}
use Rattle.ledger_core.specs.Answers.{IsLastEntry}
use Rattle.ledger_core.specs.Ledgers.{IsLedger, IsPlanned}
use Rattle.ledger_core.proofs.Asking.{left, may_leave}
use Rattle.ledger_core.proofs.Stopping.{row_read, seen_kept}
use Rattle.ledger_ends.specs.Losses.{HasNoLosses}
use Rattle.ledger_core.proofs.ledger.Ledger.leave.Goals as goal

pub unwrap-requires : goal.unwrap-requires
unwrap-requires c =
    let ready = subst (λ (r : Course). MayAsk r c.args.worker) (sym c.self.view_is) c.requires.ready in
    c.push.ensures.succeeds (may_leave _ _ _ _ _ _ c.self.invariant.0 c.args.worker ready)

pub invariant_of-self : goal.invariant_of-self
invariant_of-self c =
    let ready = subst (λ (r : Course). MayAsk r c.args.worker) (sym c.self.view_is) c.requires.ready in
    let last = subst (λ (r : Course). IsLastEntry (setup_of r) (entries r) c.args.worker c.args.last) (sym c.self.view_is) c.requires.last in
    let items : c.push.new.self.items ≡ c.self.inside.journal.items ++ c.args.last ∷ [] = rw c.unwrap.ensures at c.push.ensures.ok in
    let seen : first_seen c.push.new.self.items ≡ first_seen c.self.inside.journal.items = ap first_seen items ∙ seen_kept c.self.inside.journal.items c.args.last c.self.invariant.0.begun in
    let below : c.args.worker < length c.self.inside.workers.items = let a = ready.below in let b = c.self.invariant.0.workers_size in omega (arith, a, b) in
    let row : c.index_mut-row.result.now ≡ get_or c.self.inside.workers.items c.args.worker no_worker = row_read c.self.inside.workers.items c.args.worker c.index_mut-row.result.now below c.index_mut-row.ensures.value in (
      subst (λ (s : Seen). IsLedger (record { declared = c.self.inside.declared; seen = s; actions = c.self.inside.plan.actions; limits = c.self.inside.limits }) c.push.new.self c.self.inside.rows c.self.inside.slots
          (set c.self.inside.workers.items c.args.worker (record { out = c.index_mut-row.result.now.out; left = true; stopped = c.index_mut-row.result.now.stopped })) c.ends_with-self-inside.result) (sym seen)
          (subst (λ (e : Bool). IsLedger (record { declared = c.self.inside.declared; seen = first_seen c.self.inside.journal.items; actions = c.self.inside.plan.actions; limits = c.self.inside.limits }) c.push.new.self c.self.inside.rows c.self.inside.slots
          (set c.self.inside.workers.items c.args.worker (record { out = c.index_mut-row.result.now.out; left = true; stopped = c.index_mut-row.result.now.stopped })) e) (sym c.ends_with-self-inside.ensures)
          (subst (λ (r : WorkerRow). IsLedger (record { declared = c.self.inside.declared; seen = first_seen c.self.inside.journal.items; actions = c.self.inside.plan.actions; limits = c.self.inside.limits }) c.push.new.self c.self.inside.rows c.self.inside.slots
          (set c.self.inside.workers.items c.args.worker (record { out = r.out; left = true; stopped = r.stopped })) (c.self.inside.ending || is_ending (c.args.last ∷ []))) (sym row)
          (left _ _ _ _ _ _ c.self.invariant.0 c.args.worker ready c.args.last last c.push.new.self items c.push.ensures.spare))),
      subst (λ (s : Seen). IsPlanned (record { declared = c.self.inside.declared; seen = s; actions = c.self.inside.plan.actions; limits = c.self.inside.limits }) c.self.inside.plan.kept c.self.inside.dependents c.self.inside.places) (sym seen) c.self.invariant.1,
      subst (λ (s : Seen). HasNoLosses (record { declared = c.self.inside.declared; seen = s; actions = c.self.inside.plan.actions; limits = c.self.inside.limits }) c.self.inside.losses) (sym seen) c.self.invariant.2,
    )
