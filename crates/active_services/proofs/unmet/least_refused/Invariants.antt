use Rattle.std.proofs.Common.{◌≡◌, ◌≤◌, drop, length}
use Rattle.std.specs.Prelude.{filter}
use Rattle.std.specs.Option.{option_map}
use Rattle.active_services.specs.Profiles.{is_enabled, is_refused}
use Rattle.tree_base.specs.ByteOrder.{least_by}
use Rattle.active_services.proofs.unmet.least_refused.Given as goal

-- the least refused service of those that were gone through, which are the last ones
abbrev pub invariant-loop-left : goal.invariant-loop-left
invariant-loop-left l = record {
  within : l.left ≤ length l.services;
  least : option_map (λ service. (service.0.now, service.1.now)) l.least ≡ least_by (λ service. service.0) (filter (λ service. is_refused (is_enabled l.profiles) l.services service.1) (drop l.left l.services));
}

abbrev pub decreases-loop-left : goal.decreases-loop-left
decreases-loop-left l = l.left
