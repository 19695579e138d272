-- The row has one action more.
use Rattle.std.proofs.Common.{◌∙◌, ℕ, ap}
use Rattle.run_model.specs.Plans.{is_wanted}
use Rattle.plan_core.specs.Table.{action_of}
use Rattle.plan_core.proofs.Rows.{row_turn}
use Rattle.plan_core.proofs.planner.Planner.push_row.Goals as goal

pub loop-at-preserved : goal.loop-at-preserved
loop-at-preserved c =
    row_turn (is_wanted c.args.self.now) c.args.kinds.now (λ (n : ℕ). action_of c.args.row n) c.loop-at.at c.loop-at.kinds _ _ c.loop-at.invariant c.in_ok-push_wanted.ensures
    (c.action_of.ensures ∙ ap (λ (n : ℕ). action_of c.args.row n) c.in_ok-number.ensures)
