-- An action that needs removals needs all of them.
use Rattle.std.proofs.Common.{◌≡◌, ◌∙◌, ℕ, List, IfOk, subst, sym}
use Rattle.plan_core.proofs.Found.{all_removals}
use Rattle.plan_core.proofs.planner.Planner.needed_always.Goals as goal

pub returns : goal.returns
returns c =
    subst (λ (needs : List ℕ). IfOk c.copied.result (λ list. list ≡ needs))
    (c.requires.listed ∙ sym (all_removals c.args.self.now c.args.kinds.now c.args.kind c.requires.all)) c.copied.ensures
