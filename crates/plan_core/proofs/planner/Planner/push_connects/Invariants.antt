use Rattle.std.proofs.Common.{◌≡◌, ◌++◌}
use Rattle.std.specs.Prelude.{filter, flat_map}
use Rattle.run_model.specs.Plans.{is_wanted}
use Rattle.run_model.specs.Numbers.{numbers_from}
use Rattle.plan_core.specs.Rows.{connects_of}
use Rattle.plan_core.proofs.planner.Planner.push_connects.Given as goal

abbrev pub invariant-loop-at : goal.invariant-loop-at
invariant-loop-at l = l.kinds ≡ l.initial.kinds ++ filter (is_wanted l.self) (flat_map (connects_of l.self) (numbers_from 0 l.at))
