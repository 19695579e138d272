use Rattle.std.proofs.Common.{◌≡◌, ℕ, ◌++◌, map}
use Rattle.std.specs.Prelude.{filter}
use Rattle.run_model.specs.Plans.{is_wanted}
use Rattle.run_model.specs.Numbers.{numbers_from}
use Rattle.plan_core.specs.Table.{action_of}
use Rattle.plan_core.proofs.planner.Planner.push_row.Given as goal

abbrev pub invariant-loop-at : goal.invariant-loop-at
invariant-loop-at l = l.kinds ≡ l.initial.kinds ++ filter (is_wanted l.self) (map (λ (n : ℕ). action_of l.row n) (numbers_from 0 l.at))
