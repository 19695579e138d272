use Rattle.std.proofs.Common.{◌≡◌, ◌≤◌, drop, length}
use Rattle.std.specs.Prelude.{filter}
use Rattle.std.specs.Option.{option_map}
use Rattle.file_paths.specs.Shapes.{is_faulty}
use Rattle.tree_base.specs.ByteOrder.{least_by}
use Rattle.file_paths.proofs.shape.least_faulty.Given as goal

-- the least faulty service of those that were gone through, which are the last ones
abbrev pub invariant-loop-left : goal.invariant-loop-left
invariant-loop-left l = record {
  within : l.left ≤ length l.services;
  least : option_map (λ service. (service.0.now, service.1.now)) l.least ≡ least_by (λ entry. entry.0) (filter is_faulty (drop l.left l.services));
}

abbrev pub decreases-loop-left : goal.decreases-loop-left
decreases-loop-left l = l.left
