use Rattle.std.proofs.Common.{◌≡◌, ◌≤◌, drop, length}
use Rattle.std.specs.Prelude.{filter}
use Rattle.std.specs.Option.{option_map}
use Rattle.active_services.specs.Profiles.{is_enabled, is_unmet}
use Rattle.tree_base.specs.ByteOrder.{least_by}
use Rattle.active_services.proofs.unmet.least_unmet.Given as goal

-- the least unmet dependency of those that were gone through, which are the last ones
abbrev pub invariant-loop-left : goal.invariant-loop-left
invariant-loop-left l = record {
  within : l.left ≤ length l.needs;
  least : option_map (λ need. (need.0.now, need.1.now)) l.least ≡ least_by (λ need. need.0) (filter (is_unmet (is_enabled l.profiles) l.services) (drop l.left l.needs));
}

abbrev pub decreases-loop-left : goal.decreases-loop-left
decreases-loop-left l = l.left
