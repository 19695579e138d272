-- The rows stand one after another.
use Rattle.run_model.specs.Plans.{is_wanted}
use Rattle.plan_core.proofs.Rows.{first_row, next_row}
use Rattle.plan_core.proofs.planner.Planner.planned_kinds.Goals as goal

pub returns : goal.returns
returns c =
    let w = is_wanted c.args.self.now in
    let r1 = first_row w _ _ _ c.new-kinds.ensures c.in_ok-push_row.ensures in
    let r2 = next_row w _ _ _ _ r1 c.in_ok-push_row-2.ensures in
    let r3 = next_row w _ _ _ _ r2 c.in_ok-push_ends_by_id.ensures in
    let r4 = next_row w _ _ _ _ r3 c.in_ok-push_row-3.ensures in
    let r5 = next_row w _ _ _ _ r4 c.in_ok-push_connects.ensures in
    let r6 = next_row w _ _ _ _ r5 c.in_ok-push_row-4.ensures in
    let r7 = next_row w _ _ _ _ r6 c.in_ok-push_row-5.ensures in
    let r8 = next_row w _ _ _ _ r7 c.in_ok-push_row-6.ensures in
    next_row w _ _ _ _ r8 c.in_ok-push_row-7.ensures
