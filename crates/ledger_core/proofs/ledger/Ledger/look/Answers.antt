use Rattle.std.proofs.Common.{◌≡◌, ◌<◌, ◌≤◌, ◌+◌, ◌∷◌, ◌++◌, [], List, length, set, get_or, true, sym, ap, ◌∙◌, subst, arith}
use Rattle.engine_types.specs.declared.Entry.{Entry}
use Rattle.engine_types.specs.declared.Seen.{Seen}
use Rattle.run_model.specs.Legal.{Look}
use Rattle.journal_laws.specs.Courses.{Course, MayAsk, first_seen}
use Rattle.journal_laws.specs.Laws.{decided}
use Rattle.ledger_rows.specs.Workers.{no_worker}
use Rattle.ledger_rows.specs.declared.worker_row.WorkerRow.{WorkerRow}
use Rattle.slot_rows.specs.Keys.{no_slot}
use Rattle.slot_rows.specs.declared.slot_row.SlotRow.{SlotRow}
use Rattle.ledger_core.specs.Ledgers.{IsLedger, IsPlanned}
use Rattle.ledger_core.proofs.Asking.{looked, polls_small, slot_there}
use Rattle.ledger_core.proofs.Entries.{roomier}
use Rattle.ledger_core.proofs.Stopping.{row_read, seen_kept}
use Rattle.ledger_ends.specs.Losses.{HasNoLosses}
use Rattle.ledger_core.proofs.ledger.Ledger.look.Goals as goal

pub unwrap-requires : goal.unwrap-requires
unwrap-requires c = c.push.ensures.succeeds (let k = c.in_ok-reserve.ensures.ok in omega (arith, k))

pub row-row-requires : goal.row-row-requires
row-row-requires c =
    let ready = subst (λ (r : Course). MayAsk r c.args.worker) (sym c.self.view_is) c.requires.ready in
    let d = subst (λ (r : Course). decided r c.args.worker ≡ Look c.args.slot) (sym c.self.view_is) c.requires.decided in
    slot_there _ _ _ _ _ _ c.self.invariant.0 c.args.worker ready c.args.slot d

pub overflow_add-row : goal.overflow_add-row
overflow_add-row c =
    let ready = subst (λ (r : Course). MayAsk r c.args.worker) (sym c.self.view_is) c.requires.ready in
    let d = subst (λ (r : Course). decided r c.args.worker ≡ Look c.args.slot) (sym c.self.view_is) c.requires.decided in
    let k = polls_small _ _ _ _ _ _ c.self.invariant.0 c.args.worker ready c.args.slot d in
    let e : c.row-row.result.polls ≡ (get_or c.self.inside.slots c.args.slot no_slot).polls = ap (λ (r : SlotRow). r.polls) c.row-row.ensures in
    omega (arith, k, e)

pub set-requires : goal.set-requires
set-requires c =
    let ready = subst (λ (r : Course). MayAsk r c.args.worker) (sym c.self.view_is) c.requires.ready in
    let d = subst (λ (r : Course). decided r c.args.worker ≡ Look c.args.slot) (sym c.self.view_is) c.requires.decided in
    slot_there _ _ _ _ _ _ c.self.invariant.0 c.args.worker ready c.args.slot d

-- the room was not there
pub invariant_of-self : goal.invariant_of-self
invariant_of-self c =
    let seen : first_seen c.reserve.new.self.items ≡ first_seen c.self.inside.journal.items = ap first_seen c.in_err-reserve.ensures.items in (
      subst (λ (s : Seen). IsLedger (record { declared = c.self.inside.declared; seen = s; actions = c.self.inside.plan.actions; limits = c.self.inside.limits }) c.reserve.new.self c.self.inside.rows c.self.inside.slots c.self.inside.workers.items c.self.inside.ending) (sym seen)
          (roomier _ _ _ _ _ _ _ c.self.invariant.0 c.in_err-reserve.ensures.items c.in_err-reserve.ensures.kept),
      subst (λ (s : Seen). IsPlanned (record { declared = c.self.inside.declared; seen = s; actions = c.self.inside.plan.actions; limits = c.self.inside.limits }) c.self.inside.plan.kept c.self.inside.dependents c.self.inside.places) (sym seen) c.self.invariant.1,
      subst (λ (s : Seen). HasNoLosses (record { declared = c.self.inside.declared; seen = s; actions = c.self.inside.plan.actions; limits = c.self.inside.limits }) c.self.inside.losses) (sym seen) c.self.invariant.2,
    )

pub invariant_of-self-2 : goal.invariant_of-self-2
invariant_of-self-2 c =
    let ready = subst (λ (r : Course). MayAsk r c.args.worker) (sym c.self.view_is) c.requires.ready in
    let d = subst (λ (r : Course). decided r c.args.worker ≡ Look c.args.slot) (sym c.self.view_is) c.requires.decided in
    let pushed : c.push.new.self.items ≡ c.reserve.new.self.items ++ Entry.Poll c.args.worker c.args.slot ∷ [] = rw c.unwrap.ensures at c.push.ensures.ok in
    let items : c.push.new.self.items ≡ c.self.inside.journal.items ++ Entry.Poll c.args.worker c.args.slot ∷ [] = pushed ∙ ap (λ (js : List Entry). js ++ Entry.Poll c.args.worker c.args.slot ∷ []) c.in_ok-reserve.ensures.items in
    let spare : 49 ≤ c.push.new.self.spare = let k = c.in_ok-reserve.ensures.ok in let m = c.push.ensures.spare in omega (arith, k, m) in
    let seen : first_seen c.push.new.self.items ≡ first_seen c.self.inside.journal.items = ap first_seen items ∙ seen_kept c.self.inside.journal.items (Entry.Poll c.args.worker c.args.slot) c.self.invariant.0.begun in
    let below : c.args.worker < length c.self.inside.workers.items = let a = ready.below in let b = c.self.invariant.0.workers_size in omega (arith, a, b) in
    let own : c.index_mut-own.result.now ≡ get_or c.self.inside.workers.items c.args.worker no_worker = row_read c.self.inside.workers.items c.args.worker c.index_mut-own.result.now below c.index_mut-own.ensures.value in
    let polled : c.set.new.self ≡ set c.self.inside.slots c.args.slot (record (get_or c.self.inside.slots c.args.slot no_slot) { out = true; polls = (get_or c.self.inside.slots c.args.slot no_slot).polls + 1 }) =
    c.set.ensures ∙ ap (λ (r : SlotRow). set c.self.inside.slots c.args.slot (record r { out = true; polls = r.polls + 1 })) c.row-row.ensures in (
      subst (λ (s : Seen). IsLedger (record { declared = c.self.inside.declared; seen = s; actions = c.self.inside.plan.actions; limits = c.self.inside.limits }) c.push.new.self c.self.inside.rows c.set.new.self
          (set c.self.inside.workers.items c.args.worker (record { out = true; left = c.index_mut-own.result.now.left; stopped = c.index_mut-own.result.now.stopped })) c.self.inside.ending) (sym seen)
          (subst (λ (ss : List SlotRow). IsLedger (record { declared = c.self.inside.declared; seen = first_seen c.self.inside.journal.items; actions = c.self.inside.plan.actions; limits = c.self.inside.limits }) c.push.new.self c.self.inside.rows ss
          (set c.self.inside.workers.items c.args.worker (record { out = true; left = c.index_mut-own.result.now.left; stopped = c.index_mut-own.result.now.stopped })) c.self.inside.ending) (sym polled)
          (subst (λ (r : WorkerRow). IsLedger (record { declared = c.self.inside.declared; seen = first_seen c.self.inside.journal.items; actions = c.self.inside.plan.actions; limits = c.self.inside.limits }) c.push.new.self c.self.inside.rows
          (set c.self.inside.slots c.args.slot (record (get_or c.self.inside.slots c.args.slot no_slot) { out = true; polls = (get_or c.self.inside.slots c.args.slot no_slot).polls + 1 }))
          (set c.self.inside.workers.items c.args.worker (record { out = true; left = r.left; stopped = r.stopped })) c.self.inside.ending) (sym own)
          (looked _ _ _ _ _ _ c.self.invariant.0 c.args.worker ready c.args.slot d c.push.new.self items spare))),
      subst (λ (s : Seen). IsPlanned (record { declared = c.self.inside.declared; seen = s; actions = c.self.inside.plan.actions; limits = c.self.inside.limits }) c.self.inside.plan.kept c.self.inside.dependents c.self.inside.places) (sym seen) c.self.invariant.1,
      subst (λ (s : Seen). HasNoLosses (record { declared = c.self.inside.declared; seen = s; actions = c.self.inside.plan.actions; limits = c.self.inside.limits }) c.self.inside.losses) (sym seen) c.self.invariant.2,
    )
