use Rattle.std.proofs.Common.{rules, ◌≡◌, ◌<◌, ◌∷◌, ◌++◌, [], List, length, set, get_or, reverse, false, refl, sym, ap, ◌∙◌, subst, arith}
use Rattle.engine_types.specs.declared.Entry.{Entry}
use Rattle.engine_types.specs.declared.Seen.{Seen}
use Rattle.run_model.specs.Journals.{Watch, holding, is_open}
use Rattle.run_model.specs.Legal.{IsLegal}
use Rattle.journal_laws.specs.Courses.{Course, entries, first_seen}
use Rattle.ledger_rows.specs.Entries.{RowsSay}
use Rattle.ledger_rows.specs.Workers.{no_worker}
use Rattle.ledger_rows.specs.declared.worker_row.WorkerRow.{WorkerRow}
use Rattle.slot_rows.specs.Slots.{AreSlots}
use Rattle.ledger_ends.specs.Dependents.{AreDependents}
use Rattle.ledger_ends.specs.Losses.{HasNoLosses}
use Rattle.ledger_core.specs.Ledgers.{IsLedger, IsPlanned}
use Rattle.ledger_core.proofs.Asking.{watched_below}
use Rattle.ledger_core.proofs.Permits.{ended, may_end, own_below}
use Rattle.ledger_core.proofs.Stopping.{row_read, seen_kept}
use Rattle.ledger_core.proofs.ledger.Ledger.end_poll.Goals as goal

pub end_poll-requires : goal.end_poll-requires
end_poll-requires c =
    let held = subst (λ (r : Course). holding (entries r) c.args.worker ≡ Watch c.args.slot) (sym c.self.view_is) c.requires in
    let below = watched_below c.self.invariant.0.aim (record { declared = c.self.inside.declared; seen = first_seen c.self.inside.journal.items; actions = c.self.inside.plan.actions; limits = c.self.inside.limits }) (reverse c.self.inside.journal.items) c.args.worker c.args.slot c.self.invariant.0.legal held in
    let size = c.self.invariant.0.watched.size in
    let there : c.args.slot < length c.self.inside.slots = omega (arith, below, size) in
    let j : c.as_slice.result.now ≡ c.self.inside.journal.items = c.as_slice.ensures in
    let legal = subst (λ (js : List Entry). IsLegal c.self.invariant.0.aim (record { declared = c.self.inside.declared; seen = first_seen js; actions = c.self.inside.plan.actions; limits = c.self.inside.limits }) (reverse js)) (sym j) c.self.invariant.0.legal in
    let held_there = subst (λ (js : List Entry). holding (reverse js) c.args.worker ≡ Watch c.args.slot) (sym j) held in
    let said = subst (λ (js : List Entry). RowsSay (record { declared = c.self.inside.declared; seen = first_seen js; actions = c.self.inside.plan.actions; limits = c.self.inside.limits }) js c.self.inside.rows) (sym j) c.self.invariant.0.actions in
    let watched = subst (λ (js : List Entry). AreSlots (record { declared = c.self.inside.declared; seen = first_seen js; actions = c.self.inside.plan.actions; limits = c.self.inside.limits }) (reverse js) c.self.inside.slots) (sym j) c.self.invariant.0.watched in
    let losses = subst (λ (js : List Entry). HasNoLosses (record { declared = c.self.inside.declared; seen = first_seen js; actions = c.self.inside.plan.actions; limits = c.self.inside.limits }) c.self.inside.losses) (sym j) c.self.invariant.2 in
    let dependents = subst (λ (js : List Entry). AreDependents (record { declared = c.self.inside.declared; seen = first_seen js; actions = c.self.inside.plan.actions; limits = c.self.inside.limits }) c.self.inside.dependents) (sym j) c.self.invariant.1.dependents in
    (refl, ((c.self.invariant.0.aim, legal), (held_there, (c.self.invariant.0.orderly, (c.self.invariant.1.whole, (c.self.invariant.1.few_needs, (said, (watched, (losses, (dependents, there))))))))))

pub index_mut-own-requires : goal.index_mut-own-requires
index_mut-own-requires c =
    let held = subst (λ (r : Course). holding (entries r) c.args.worker ≡ Watch c.args.slot) (sym c.self.view_is) c.requires in
    let b = own_below _ _ _ _ _ _ c.self.invariant.0 c.args.worker c.args.outcome (ap is_open held) in
    search (rules, b)

pub unwrap-requires : goal.unwrap-requires
unwrap-requires c =
    let held = subst (λ (r : Course). holding (entries r) c.args.worker ≡ Watch c.args.slot) (sym c.self.view_is) c.requires in
    c.push.ensures.succeeds (may_end _ _ _ _ _ _ c.self.invariant.0 c.args.worker c.args.outcome (ap is_open held))

pub invariant_of-self : goal.invariant_of-self
invariant_of-self c =
    let held = subst (λ (r : Course). holding (entries r) c.args.worker ≡ Watch c.args.slot) (sym c.self.view_is) c.requires in
    let j : c.as_slice.result.now ≡ c.self.inside.journal.items = c.as_slice.ensures in
    let said = subst (λ (js : List Entry). RowsSay (record { declared = c.self.inside.declared; seen = first_seen js; actions = c.self.inside.plan.actions; limits = c.self.inside.limits }) (js ++ Entry.Ended c.args.worker c.args.outcome ∷ []) c.end_poll.new.rows) j c.end_poll.ensures.said in
    let watched = subst (λ (js : List Entry). AreSlots (record { declared = c.self.inside.declared; seen = first_seen js; actions = c.self.inside.plan.actions; limits = c.self.inside.limits }) (Entry.Ended c.args.worker c.args.outcome ∷ reverse js) c.end_poll.new.slots) j c.end_poll.ensures.watched in
    let none = subst (λ (js : List Entry). HasNoLosses (record { declared = c.self.inside.declared; seen = first_seen js; actions = c.self.inside.plan.actions; limits = c.self.inside.limits }) c.end_poll.new.losses) j c.end_poll.ensures.no_losses in
    let items : c.push.new.self.items ≡ c.self.inside.journal.items ++ Entry.Ended c.args.worker c.args.outcome ∷ [] = rw c.unwrap.ensures at c.push.ensures.ok in
    let seen : first_seen c.push.new.self.items ≡ first_seen c.self.inside.journal.items = ap first_seen items ∙ seen_kept c.self.inside.journal.items (Entry.Ended c.args.worker c.args.outcome) c.self.invariant.0.begun in
    let below = own_below _ _ _ _ _ _ c.self.invariant.0 c.args.worker c.args.outcome (ap is_open held) in
    let own : c.index_mut-own.result.now ≡ get_or c.self.inside.workers.items c.args.worker no_worker = row_read c.self.inside.workers.items c.args.worker c.index_mut-own.result.now below c.index_mut-own.ensures.value in (
      subst (λ (s : Seen). IsLedger (record { declared = c.self.inside.declared; seen = s; actions = c.self.inside.plan.actions; limits = c.self.inside.limits }) c.push.new.self c.end_poll.new.rows c.end_poll.new.slots
          (set c.self.inside.workers.items c.args.worker (record { out = false; left = c.index_mut-own.result.now.left; stopped = c.index_mut-own.result.now.stopped })) c.self.inside.ending) (sym seen)
          (subst (λ (r : WorkerRow). IsLedger (record { declared = c.self.inside.declared; seen = first_seen c.self.inside.journal.items; actions = c.self.inside.plan.actions; limits = c.self.inside.limits }) c.push.new.self c.end_poll.new.rows c.end_poll.new.slots
          (set c.self.inside.workers.items c.args.worker (record { out = false; left = r.left; stopped = r.stopped })) c.self.inside.ending) (sym own)
          (ended _ _ _ _ _ _ c.self.invariant.0 c.args.worker c.args.outcome (ap is_open held) c.end_poll.new.rows c.end_poll.new.slots said watched c.push.new.self items c.push.ensures.spare)),
      subst (λ (s : Seen). IsPlanned (record { declared = c.self.inside.declared; seen = s; actions = c.self.inside.plan.actions; limits = c.self.inside.limits }) c.self.inside.plan.kept c.self.inside.dependents c.self.inside.places) (sym seen) c.self.invariant.1,
      subst (λ (s : Seen). HasNoLosses (record { declared = c.self.inside.declared; seen = s; actions = c.self.inside.plan.actions; limits = c.self.inside.limits }) c.end_poll.new.losses) (sym seen) none,
    )
