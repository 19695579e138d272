use Rattle.std.proofs.Common.{◌≡◌}
use Rattle.run_model.specs.Numbers.{numbers_from}
use Rattle.plan_core.proofs.kinds.all_places.Given as goal

abbrev pub invariant-loop-at : goal.invariant-loop-at
invariant-loop-at l = l.all.items ≡ numbers_from 0 l.at
