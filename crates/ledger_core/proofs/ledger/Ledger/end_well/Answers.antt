use Rattle.std.proofs.Common.{◌≡◌, ◌∷◌, ◌++◌, [], List, set, get_or, reverse, true, false, refl, sym, ap, ◌∙◌, subst, arith}
use Rattle.std.proofs.lemmas.Grind.{common_steps}
use Rattle.engine_types.specs.declared.Entry.{Entry}
use Rattle.engine_types.specs.declared.Outcome.{Outcome}
use Rattle.engine_types.specs.declared.Seen.{Seen}
use Rattle.run_model.specs.Journals.{Work, ended_as, holding, is_open, is_well}
use Rattle.run_model.specs.Plans.{kind_of}
use Rattle.journal_laws.specs.Courses.{Course, entries, first_seen}
use Rattle.journal_laws.proofs.Holders.{is_held}
use Rattle.ledger_rows.specs.Entries.{IsDueTo, RowsSay}
use Rattle.ledger_rows.specs.Workers.{no_worker}
use Rattle.ledger_rows.specs.declared.worker_row.WorkerRow.{WorkerRow}
use Rattle.slot_rows.specs.declared.slot_row.SlotRow.{SlotRow}
use Rattle.ledger_ends.specs.Dependents.{AreDependents}
use Rattle.ledger_ends.specs.Entries.{reply_of}
use Rattle.ledger_ends.specs.Losses.{HasNoLosses}
use Rattle.ledger_core.specs.Ledgers.{IsLedger, IsPlanned, counting}
use Rattle.ledger_core.proofs.Ending.{ended_well}
use Rattle.ledger_core.proofs.Permits.{answered_well, may_end, out_below, own_below}
use Rattle.ledger_core.proofs.Stopping.{row_read, seen_kept}
use Rattle.ledger_core.proofs.ledger.Ledger.end_well.Goals as goal

pub end_well-requires : goal.end_well-requires
end_well-requires c =
    let held = subst (λ (r : Course). holding (entries r) c.args.worker ≡ Work c.args.action) (sym c.self.view_is) c.requires.held in
    let good = subst (λ (r : Course). is_well (ended_as (kind_of r.plan.actions c.args.action) c.args.outcome) ≡ true) (sym c.self.view_is) c.requires.good in
    let there = out_below (record { declared = c.self.inside.declared; seen = first_seen c.self.inside.journal.items; actions = c.self.inside.plan.actions; limits = c.self.inside.limits }) c.self.inside.journal.items c.self.inside.rows c.args.action c.self.invariant.0.actions (is_held c.self.invariant.0.aim (record { declared = c.self.inside.declared; seen = first_seen c.self.inside.journal.items; actions = c.self.inside.plan.actions; limits = c.self.inside.limits }) (reverse c.self.inside.journal.items) c.args.worker c.args.action c.self.invariant.0.legal held).out in
    let j : c.as_slice.result.now ≡ c.self.inside.journal.items = c.as_slice.ensures in
    let said = subst (λ (js : List Entry). RowsSay (record { declared = c.self.inside.declared; seen = first_seen js; actions = c.self.inside.plan.actions; limits = c.self.inside.limits }) js c.self.inside.rows) (sym j) c.self.invariant.0.actions in
    let dependents = subst (λ (js : List Entry). AreDependents (record { declared = c.self.inside.declared; seen = first_seen js; actions = c.self.inside.plan.actions; limits = c.self.inside.limits }) c.self.inside.dependents) (sym j) c.self.invariant.1.dependents in
    let due = subst (λ (js : List Entry). IsDueTo (record { declared = c.self.inside.declared; seen = first_seen js; actions = c.self.inside.plan.actions; limits = c.self.inside.limits }) js c.args.worker c.args.action) (sym j) (record { aim = c.self.invariant.0.aim; legal = c.self.invariant.0.legal; held = held }) in
    (refl, (said, (dependents, (there, (due, (answered_well (kind_of c.self.inside.plan.actions c.args.action) c.args.outcome good).1)))))

pub count_start-requires : goal.count_start-requires
count_start-requires c = λ s h.
    let k = c.self.invariant.1.single.there c.args.action s (sym c.kind_at.ensures ∙ h) in
    let z = c.self.invariant.0.watched.size in
    omega (arith, k, z)

pub index_mut-own-requires : goal.index_mut-own-requires
index_mut-own-requires c =
    let held = subst (λ (r : Course). holding (entries r) c.args.worker ≡ Work c.args.action) (sym c.self.view_is) c.requires.held in
    let b = own_below _ _ _ _ _ _ c.self.invariant.0 c.args.worker c.args.outcome (ap is_open held) in
    grind (arith, common_steps, b)

pub unwrap-requires : goal.unwrap-requires
unwrap-requires c =
    let held = subst (λ (r : Course). holding (entries r) c.args.worker ≡ Work c.args.action) (sym c.self.view_is) c.requires.held in
    c.push.ensures.succeeds (may_end _ _ _ _ _ _ c.self.invariant.0 c.args.worker c.args.outcome (ap is_open held))

pub invariant_of-self : goal.invariant_of-self
invariant_of-self c =
    let held = subst (λ (r : Course). holding (entries r) c.args.worker ≡ Work c.args.action) (sym c.self.view_is) c.requires.held in
    let good = subst (λ (r : Course). is_well (ended_as (kind_of r.plan.actions c.args.action) c.args.outcome) ≡ true) (sym c.self.view_is) c.requires.good in
    let j : c.as_slice.result.now ≡ c.self.inside.journal.items = c.as_slice.ensures in
    let told = subst (λ (js : List Entry). RowsSay (record { declared = c.self.inside.declared; seen = first_seen js; actions = c.self.inside.plan.actions; limits = c.self.inside.limits }) (js ++ Entry.Ended c.args.worker (Outcome.Answered (reply_of c.args.outcome)) ∷ []) c.end_well.new.rows) j c.end_well.ensures in
    let said = subst (λ (o : Outcome). RowsSay (record { declared = c.self.inside.declared; seen = first_seen c.self.inside.journal.items; actions = c.self.inside.plan.actions; limits = c.self.inside.limits }) (c.self.inside.journal.items ++ Entry.Ended c.args.worker o ∷ []) c.end_well.new.rows) (sym (answered_well (kind_of c.self.inside.plan.actions c.args.action) c.args.outcome good).0) told in
    let items : c.push.new.self.items ≡ c.self.inside.journal.items ++ Entry.Ended c.args.worker c.args.outcome ∷ [] = rw c.unwrap.ensures at c.push.ensures.ok in
    let seen : first_seen c.push.new.self.items ≡ first_seen c.self.inside.journal.items = ap first_seen items ∙ seen_kept c.self.inside.journal.items (Entry.Ended c.args.worker c.args.outcome) c.self.invariant.0.begun in
    let below = own_below _ _ _ _ _ _ c.self.invariant.0 c.args.worker c.args.outcome (ap is_open held) in
    let own : c.index_mut-own.result.now ≡ get_or c.self.inside.workers.items c.args.worker no_worker = row_read c.self.inside.workers.items c.args.worker c.index_mut-own.result.now below c.index_mut-own.ensures.value in
    let counted : c.count_start.new.slots ≡ counting (kind_of c.self.inside.plan.actions c.args.action) c.self.inside.slots = c.count_start.ensures ∙ ap (λ k. counting k c.self.inside.slots) c.kind_at.ensures in (
      subst (λ (s : Seen). IsLedger (record { declared = c.self.inside.declared; seen = s; actions = c.self.inside.plan.actions; limits = c.self.inside.limits }) c.push.new.self c.end_well.new.rows c.count_start.new.slots
          (set c.self.inside.workers.items c.args.worker (record { out = false; left = c.index_mut-own.result.now.left; stopped = c.index_mut-own.result.now.stopped })) c.self.inside.ending) (sym seen)
          (subst (λ (ss : List SlotRow). IsLedger (record { declared = c.self.inside.declared; seen = first_seen c.self.inside.journal.items; actions = c.self.inside.plan.actions; limits = c.self.inside.limits }) c.push.new.self c.end_well.new.rows ss
          (set c.self.inside.workers.items c.args.worker (record { out = false; left = c.index_mut-own.result.now.left; stopped = c.index_mut-own.result.now.stopped })) c.self.inside.ending) (sym counted)
          (subst (λ (r : WorkerRow). IsLedger (record { declared = c.self.inside.declared; seen = first_seen c.self.inside.journal.items; actions = c.self.inside.plan.actions; limits = c.self.inside.limits }) c.push.new.self c.end_well.new.rows (counting (kind_of c.self.inside.plan.actions c.args.action) c.self.inside.slots)
          (set c.self.inside.workers.items c.args.worker (record { out = false; left = r.left; stopped = r.stopped })) c.self.inside.ending) (sym own)
          (ended_well _ _ _ _ _ _ c.self.invariant.0 c.args.worker c.args.action c.args.outcome held good c.self.invariant.1.single c.end_well.new.rows said c.push.new.self items c.push.ensures.spare))),
      subst (λ (s : Seen). IsPlanned (record { declared = c.self.inside.declared; seen = s; actions = c.self.inside.plan.actions; limits = c.self.inside.limits }) c.self.inside.plan.kept c.self.inside.dependents c.self.inside.places) (sym seen) c.self.invariant.1,
      subst (λ (s : Seen). HasNoLosses (record { declared = c.self.inside.declared; seen = s; actions = c.self.inside.plan.actions; limits = c.self.inside.limits }) c.self.inside.losses) (sym seen) c.self.invariant.2,
    )
