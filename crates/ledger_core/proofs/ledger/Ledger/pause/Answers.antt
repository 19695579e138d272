use Rattle.std.proofs.Common.{◌≡◌, ◌≤◌, ◌∷◌, ◌++◌, [], List, sym, ap, ◌∙◌, subst, arith}
use Rattle.engine_types.specs.declared.Entry.{Entry}
use Rattle.engine_types.specs.declared.Seen.{Seen}
use Rattle.run_model.specs.Legal.{Pause}
use Rattle.journal_laws.specs.Courses.{Course, MayAsk, first_seen}
use Rattle.journal_laws.specs.Laws.{decided}
use Rattle.ledger_core.specs.Ledgers.{IsLedger, IsPlanned}
use Rattle.ledger_core.proofs.Asking.{paused}
use Rattle.ledger_core.proofs.Entries.{roomier}
use Rattle.ledger_core.proofs.Stopping.{seen_kept}
use Rattle.ledger_ends.specs.Losses.{HasNoLosses}
use Rattle.ledger_core.proofs.ledger.Ledger.pause.Goals as goal

pub unwrap-requires : goal.unwrap-requires
unwrap-requires c = c.push.ensures.succeeds (let k = c.in_ok-reserve.ensures.ok in omega (arith, k))

-- the room was not there
pub invariant_of-self : goal.invariant_of-self
invariant_of-self c =
    let seen : first_seen c.reserve.new.self.items ≡ first_seen c.self.inside.journal.items = ap first_seen c.in_err-reserve.ensures.items in (
      subst (λ (s : Seen). IsLedger (record { declared = c.self.inside.declared; seen = s; actions = c.self.inside.plan.actions; limits = c.self.inside.limits }) c.reserve.new.self c.self.inside.rows c.self.inside.slots c.self.inside.workers.items c.self.inside.ending) (sym seen)
          (roomier _ _ _ _ _ _ _ c.self.invariant.0 c.in_err-reserve.ensures.items c.in_err-reserve.ensures.kept),
      subst (λ (s : Seen). IsPlanned (record { declared = c.self.inside.declared; seen = s; actions = c.self.inside.plan.actions; limits = c.self.inside.limits }) c.self.inside.plan.kept c.self.inside.dependents c.self.inside.places) (sym seen) c.self.invariant.1,
      subst (λ (s : Seen). HasNoLosses (record { declared = c.self.inside.declared; seen = s; actions = c.self.inside.plan.actions; limits = c.self.inside.limits }) c.self.inside.losses) (sym seen) c.self.invariant.2,
    )

pub invariant_of-self-2 : goal.invariant_of-self-2
invariant_of-self-2 c =
    let ready = subst (λ (r : Course). MayAsk r c.args.worker) (sym c.self.view_is) c.requires.ready in
    let d = subst (λ (r : Course). decided r c.args.worker ≡ Pause) (sym c.self.view_is) c.requires.decided in
    let pushed : c.push.new.self.items ≡ c.reserve.new.self.items ++ Entry.Idle c.args.worker ∷ [] = rw c.unwrap.ensures at c.push.ensures.ok in
    let items : c.push.new.self.items ≡ c.self.inside.journal.items ++ Entry.Idle c.args.worker ∷ [] = pushed ∙ ap (λ (js : List Entry). js ++ Entry.Idle c.args.worker ∷ []) c.in_ok-reserve.ensures.items in
    let spare : 49 ≤ c.push.new.self.spare = let k = c.in_ok-reserve.ensures.ok in let m = c.push.ensures.spare in omega (arith, k, m) in
    let seen : first_seen c.push.new.self.items ≡ first_seen c.self.inside.journal.items = ap first_seen items ∙ seen_kept c.self.inside.journal.items (Entry.Idle c.args.worker) c.self.invariant.0.begun in (
      subst (λ (s : Seen). IsLedger (record { declared = c.self.inside.declared; seen = s; actions = c.self.inside.plan.actions; limits = c.self.inside.limits }) c.push.new.self c.self.inside.rows c.self.inside.slots c.self.inside.workers.items c.self.inside.ending) (sym seen)
          (paused _ _ _ _ _ _ c.self.invariant.0 c.args.worker ready d c.push.new.self items spare),
      subst (λ (s : Seen). IsPlanned (record { declared = c.self.inside.declared; seen = s; actions = c.self.inside.plan.actions; limits = c.self.inside.limits }) c.self.inside.plan.kept c.self.inside.dependents c.self.inside.places) (sym seen) c.self.invariant.1,
      subst (λ (s : Seen). HasNoLosses (record { declared = c.self.inside.declared; seen = s; actions = c.self.inside.plan.actions; limits = c.self.inside.limits }) c.self.inside.losses) (sym seen) c.self.invariant.2,
    )
