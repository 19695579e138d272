use Rattle.std.proofs.Common.{◌≡◌, ◌<◌, ◌≤◌, ◌∷◌, ◌++◌, [], List, length, set, get_or, reverse, true, refl, sym, ap, ◌∙◌, subst, arith}
use Rattle.engine_types.specs.declared.Entry.{Entry}
use Rattle.engine_types.specs.declared.Seen.{Seen}
use Rattle.run_model.specs.Journals.{Nothing, holding}
use Rattle.run_model.specs.Legal.{Take}
use Rattle.journal_laws.specs.Courses.{Course, MayAsk, first_seen}
use Rattle.journal_laws.specs.Laws.{decided}
use Rattle.ledger_rows.specs.Entries.{RowsSay}
use Rattle.ledger_rows.specs.Workers.{no_worker}
use Rattle.ledger_rows.specs.declared.worker_row.WorkerRow.{WorkerRow}
use Rattle.slot_rows.specs.Slots.{AreSlots}
use Rattle.ledger_ends.specs.Losses.{HasNoLosses}
use Rattle.ledger_core.specs.Ledgers.{IsLedger, IsPlanned}
use Rattle.ledger_core.proofs.Entries.{roomier}
use Rattle.ledger_core.proofs.Permits.{may_be_claimed, ready_there, taken}
use Rattle.ledger_core.proofs.Stopping.{row_read, seen_kept}
use Rattle.ledger_core.proofs.ledger.Ledger.claim.Goals as goal

pub claim-requires : goal.claim-requires
claim-requires c =
    let ready = subst (λ (r : Course). MayAsk r c.args.worker) (sym c.self.view_is) c.requires.ready in
    let d = subst (λ (r : Course). decided r c.args.worker ≡ Take c.args.action) (sym c.self.view_is) c.requires.decided in
    let j : c.as_slice.result.now ≡ c.self.inside.journal.items = c.as_slice.ensures ∙ c.in_ok-reserve.ensures.items in
    let said = subst (λ (js : List Entry). RowsSay (record { declared = c.self.inside.declared; seen = first_seen js; actions = c.self.inside.plan.actions; limits = c.self.inside.limits }) js c.self.inside.rows) (sym j) c.self.invariant.0.actions in
    let watched = subst (λ (js : List Entry). AreSlots (record { declared = c.self.inside.declared; seen = first_seen js; actions = c.self.inside.plan.actions; limits = c.self.inside.limits }) (reverse js) c.self.inside.slots) (sym j) c.self.invariant.0.watched in
    let idle = subst (λ (js : List Entry). holding (reverse js) c.args.worker ≡ Nothing) (sym j) ready.idle in (
      refl,
      (
        c.self.invariant.0.orderly,
        (
          c.self.invariant.1.whole,
          (
            said,
            (
              watched,
              (
                ready_there _ _ _ _ _ _ c.self.invariant.0 c.args.worker c.args.action ready d,
                (may_be_claimed _ _ _ _ _ _ c.self.invariant.0 c.args.worker c.args.action ready d, idle),
              ),
            ),
          ),
        ),
      ),
    )

pub unwrap-requires : goal.unwrap-requires
unwrap-requires c = c.push.ensures.succeeds (let k = c.in_ok-reserve.ensures.ok in omega (arith, k))

-- the room was not there
pub invariant_of-self : goal.invariant_of-self
invariant_of-self c =
    let seen : first_seen c.reserve.new.self.items ≡ first_seen c.self.inside.journal.items = ap first_seen c.in_err-reserve.ensures.items in (
      subst (λ (s : Seen). IsLedger (record { declared = c.self.inside.declared; seen = s; actions = c.self.inside.plan.actions; limits = c.self.inside.limits }) c.reserve.new.self c.self.inside.rows c.self.inside.slots c.self.inside.workers.items c.self.inside.ending) (sym seen)
          (roomier _ _ _ _ _ _ _ c.self.invariant.0 c.in_err-reserve.ensures.items c.in_err-reserve.ensures.kept),
      subst (λ (s : Seen). IsPlanned (record { declared = c.self.inside.declared; seen = s; actions = c.self.inside.plan.actions; limits = c.self.inside.limits }) c.self.inside.plan.kept c.self.inside.dependents c.self.inside.places) (sym seen) c.self.invariant.1,
      subst (λ (s : Seen). HasNoLosses (record { declared = c.self.inside.declared; seen = s; actions = c.self.inside.plan.actions; limits = c.self.inside.limits }) c.self.inside.losses) (sym seen) c.self.invariant.2,
    )

pub invariant_of-self-2 : goal.invariant_of-self-2
invariant_of-self-2 c =
    let ready = subst (λ (r : Course). MayAsk r c.args.worker) (sym c.self.view_is) c.requires.ready in
    let d = subst (λ (r : Course). decided r c.args.worker ≡ Take c.args.action) (sym c.self.view_is) c.requires.decided in
    let j : c.as_slice.result.now ≡ c.self.inside.journal.items = c.as_slice.ensures ∙ c.in_ok-reserve.ensures.items in
    let said = subst (λ (js : List Entry). RowsSay (record { declared = c.self.inside.declared; seen = first_seen js; actions = c.self.inside.plan.actions; limits = c.self.inside.limits }) (js ++ Entry.Claim c.args.worker c.args.action ∷ []) c.claim.new.rows) j c.claim.ensures.said in
    let watched = subst (λ (js : List Entry). AreSlots (record { declared = c.self.inside.declared; seen = first_seen js; actions = c.self.inside.plan.actions; limits = c.self.inside.limits }) (Entry.Claim c.args.worker c.args.action ∷ reverse js) c.claim.new.slots) j c.claim.ensures.watched in
    let pushed : c.push.new.self.items ≡ c.reserve.new.self.items ++ Entry.Claim c.args.worker c.args.action ∷ [] = rw c.unwrap.ensures at c.push.ensures.ok in
    let items : c.push.new.self.items ≡ c.self.inside.journal.items ++ Entry.Claim c.args.worker c.args.action ∷ [] = pushed ∙ ap (λ (js : List Entry). js ++ Entry.Claim c.args.worker c.args.action ∷ []) c.in_ok-reserve.ensures.items in
    let spare : 49 ≤ c.push.new.self.spare = let k = c.in_ok-reserve.ensures.ok in let m = c.push.ensures.spare in omega (arith, k, m) in
    let seen : first_seen c.push.new.self.items ≡ first_seen c.self.inside.journal.items = ap first_seen items ∙ seen_kept c.self.inside.journal.items (Entry.Claim c.args.worker c.args.action) c.self.invariant.0.begun in
    let below : c.args.worker < length c.self.inside.workers.items = let a = ready.below in let b = c.self.invariant.0.workers_size in omega (arith, a, b) in
    let own : c.index_mut-own.result.now ≡ get_or c.self.inside.workers.items c.args.worker no_worker = row_read c.self.inside.workers.items c.args.worker c.index_mut-own.result.now below c.index_mut-own.ensures.value in (
      subst (λ (s : Seen). IsLedger (record { declared = c.self.inside.declared; seen = s; actions = c.self.inside.plan.actions; limits = c.self.inside.limits }) c.push.new.self c.claim.new.rows c.claim.new.slots
          (set c.self.inside.workers.items c.args.worker (record { out = true; left = c.index_mut-own.result.now.left; stopped = c.index_mut-own.result.now.stopped })) c.self.inside.ending) (sym seen)
          (subst (λ (r : WorkerRow). IsLedger (record { declared = c.self.inside.declared; seen = first_seen c.self.inside.journal.items; actions = c.self.inside.plan.actions; limits = c.self.inside.limits }) c.push.new.self c.claim.new.rows c.claim.new.slots
          (set c.self.inside.workers.items c.args.worker (record { out = true; left = r.left; stopped = r.stopped })) c.self.inside.ending) (sym own)
          (taken _ _ _ _ _ _ c.self.invariant.0 c.args.worker c.args.action ready d c.claim.new.rows c.claim.new.slots said watched c.push.new.self items spare)),
      subst (λ (s : Seen). IsPlanned (record { declared = c.self.inside.declared; seen = s; actions = c.self.inside.plan.actions; limits = c.self.inside.limits }) c.self.inside.plan.kept c.self.inside.dependents c.self.inside.places) (sym seen) c.self.invariant.1,
      subst (λ (s : Seen). HasNoLosses (record { declared = c.self.inside.declared; seen = s; actions = c.self.inside.plan.actions; limits = c.self.inside.limits }) c.self.inside.losses) (sym seen) c.self.invariant.2,
    )
