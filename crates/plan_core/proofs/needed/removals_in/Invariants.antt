use Rattle.std.proofs.Common.{◌≡◌}
use Rattle.std.specs.Prelude.{filter}
use Rattle.run_model.specs.Numbers.{numbers_from}
use Rattle.plan_core.specs.Finding.{is_removal_at}
use Rattle.plan_core.proofs.needed.removals_in.Given as goal

abbrev pub invariant-loop-at : goal.invariant-loop-at
invariant-loop-at l = l.removals ≡ filter (is_removal_at l.kinds) (numbers_from 0 l.at)
