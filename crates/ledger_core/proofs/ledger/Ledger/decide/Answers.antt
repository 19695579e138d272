use Rattle.std.proofs.Common.{◌==◌, ◌&&◌, not, List, get_or, true, false, refl, sym, ap, ◌∙◌, arith}
use Rattle.std.specs.List.{list_any}
use Rattle.run_model.specs.Numbers.{places}
use Rattle.ledger_rows.specs.Workers.{no_worker}
use Rattle.ledger_rows.specs.declared.worker_row.WorkerRow.{WorkerRow}
use Rattle.ledger_core.proofs.Deciding.{decides_last, decides_look, decides_take}
use Rattle.ledger_core.proofs.ledger.Ledger.decide.Goals as goal

pub returns-in-Some : goal.returns-in-Some
returns-in-Some c = rw (← c.self.view_is) (decides_take _ _ _ _ _ _ c.self.invariant.0 c.args.worker c.in-Some.action (omega arith) c.if-self.false (sym c.in-Some.is ∙ c.first.ensures))

pub returns-in-Some-first : goal.returns-in-Some-first
returns-in-Some-first c = rw (← c.self.view_is) (decides_look _ _ _ _ _ _ c.self.invariant.0 c.args.worker c.in-Some-first.slot (omega arith) c.if-self.false (sym c.in_default.is ∙ c.first.ensures) (sym c.in-Some-first.is ∙ c.first-2.ensures))

pub returns-then-is_other_out : goal.returns-then-is_other_out
returns-then-is_other_out c = rw (← c.self.view_is) (decides_last _ _ _ _ _ _ c.self.invariant.0 c.args.worker true _ (omega arith) c.if-self.false (sym c.in_default.is ∙ c.first.ensures) (sym c.in_default-first.is ∙ c.first-2.ensures) (sym (c.is_other_out.ensures ∙ ap (λ (ws : List WorkerRow). list_any (λ v. not (v == c.args.worker) && (get_or ws v no_worker).out) (places ws)) c.deref.ensures.value) ∙ c.if-is_other_out.true) refl)

pub returns : goal.returns
returns c = rw (← c.self.view_is) (decides_last _ _ _ _ _ _ c.self.invariant.0 c.args.worker false _ (omega arith) c.if-self.false (sym c.in_default.is ∙ c.first.ensures) (sym c.in_default-first.is ∙ c.first-2.ensures) (sym (c.is_other_out.ensures ∙ ap (λ (ws : List WorkerRow). list_any (λ v. not (v == c.args.worker) && (get_or ws v no_worker).out) (places ws)) c.deref.ensures.value) ∙ c.if-is_other_out.false) refl)
