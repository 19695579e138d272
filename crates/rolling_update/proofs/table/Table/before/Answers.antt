use Rattle.std.proofs.Common.{◌∙◌, ◌++◌, ℕ, List, ap, subst, sym}
use Rattle.engine_types.specs.declared.ActionKind.TheVariants.{StopKept}
use Rattle.rolling_update.specs.Needs.{AreAdded, starts_before}
use Rattle.rolling_update.proofs.Added.{before_added}
use Rattle.rolling_update.proofs.table.Table.before.Goals as goal

pub returns : goal.returns
returns c =
    subst (λ (numbers : List ℕ). AreAdded c.args.self.now (StopKept c.args.number) numbers)
    (sym (c.in_ok-push_before.ensures ∙ ap (λ (numbers : List ℕ). numbers ++ starts_before c.args.self.now c.args.number) c.new-added.ensures.items))
    (before_added c.args.self.now c.args.number)
