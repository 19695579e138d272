-- A place more is looked at.
use Rattle.std.proofs.Common.{◌∙◌, ◌++◌, ◌∷◌, ℕ, List, [], cond, sym, ap}
use Rattle.plan_core.specs.Finding.{is_removal_at}
use Rattle.plan_core.proofs.Loops.{numbers_passed}
use Rattle.plan_core.proofs.needed.removals_in.Goals as goal

pub loop-at-preserved : goal.loop-at-preserved
loop-at-preserved c =
    let at = c.loop-at.at in
    let is = c.is_removal_at-is_removal.result in
    c.in_ok-push_if.ensures ∙ ap (λ (places : List ℕ). places ++ cond is (at ∷ []) []) c.loop-at.invariant
    ∙ sym (numbers_passed (is_removal_at c.args.kinds.now) is at (sym c.is_removal_at-is_removal.ensures))
