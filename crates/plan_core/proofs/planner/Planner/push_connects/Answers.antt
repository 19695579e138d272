-- The connects of one slot more.
use Rattle.std.proofs.Common.{ap}
use Rattle.run_model.specs.Plans.{is_wanted}
use Rattle.run_model.specs.Numbers.{numbers_from}
use Rattle.plan_core.specs.Rows.{connects_of}
use Rattle.plan_core.proofs.Rows.{lists_turn, numbers_more}
use Rattle.plan_core.proofs.planner.Planner.push_connects.Goals as goal

pub loop-at-preserved : goal.loop-at-preserved
loop-at-preserved c =
    lists_turn (is_wanted c.args.self.now) c.args.kinds.now (connects_of c.args.self.now) (numbers_from 0 c.loop-at.at) c.loop-at.at (numbers_from 0 _) c.loop-at.kinds _ _ c.loop-at.invariant
    c.in_ok-push_connects_of.ensures (ap (connects_of c.args.self.now) c.in_ok-slot.ensures) (numbers_more c.loop-at.at)
