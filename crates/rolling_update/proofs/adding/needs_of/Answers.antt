use Rattle.std.proofs.Common.{ℕ, List, sym, subst, ◌∙◌}
use Rattle.rolling_update.specs.Needs.{AreAdded}
use Rattle.rolling_update.proofs.Joining.{joined_is}
use Rattle.rolling_update.proofs.adding.needs_of.Goals as goal

pub returns : goal.returns
returns c =
    c.from_vec.ensures ∙ joined_is c.args.table.now c.args.action.now.kind c.as_slice.result.now c.as_slice-2.result.now _ (c.as_slice.ensures ∙ c.requires)
    (subst (λ (numbers : List ℕ). AreAdded c.args.table.now c.args.action.now.kind numbers) (sym c.as_slice-2.ensures.value) c.in_ok-added.ensures)
    c.in_ok-needs.ensures.rises c.in_ok-needs.ensures.holds
