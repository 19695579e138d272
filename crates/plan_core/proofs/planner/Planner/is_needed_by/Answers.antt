-- The start's needs are the same for every plan.
use Rattle.plan_core.proofs.planner.Planner.is_needed_by.Goals as goal

pub returns-in-StartSlot : goal.returns-in-StartSlot
returns-in-StartSlot c = rw c.in-StartSlot.is (c.start_needs.ensures c.args.self.now)
