-- The actions before the place aren't it.
use Rattle.std.proofs.Common.{◌≡◌, ◌∙◌, ℕ, false, length, sym, ap, arith}
use Rattle.run_model.specs.Plans.{is_start_of, kind_of}
use Rattle.run_report.proofs.Numbers.{passed}
use Rattle.run_report.proofs.actions.start_of.Goals as goal

pub loop-at-preserved : goal.loop-at-preserved
loop-at-preserved c =
    let actions = c.args.plan.now.actions in
    let not_here : is_start_of c.args.slot (kind_of actions c.loop-at.at) ≡ false =
    ap (is_start_of c.args.slot) (sym c.kind_of.ensures) ∙ sym c.is_start_of.ensures ∙ c.if-is_start_of.false in
    sym (passed (λ (a : ℕ). is_start_of c.args.slot (kind_of actions a)) c.loop-at.at (length actions) (omega arith) not_here) ∙ c.loop-at.invariant
