use Rattle.std.proofs.Common.{◌≡◌, ◌++◌, take}
use Rattle.std.specs.Prelude.{filter, flat_map}
use Rattle.run_model.specs.Plans.{is_wanted}
use Rattle.plan_core.specs.Rows.{ends_of}
use Rattle.plan_core.proofs.planner.Planner.push_removals.Given as goal

abbrev pub invariant-loop-container : goal.invariant-loop-container
invariant-loop-container l = l.kinds ≡ l.initial.kinds ++ filter (is_wanted l.self) (flat_map ends_of (take l.container-index l.order))
