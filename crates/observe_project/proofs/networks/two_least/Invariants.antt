use Rattle.std.proofs.Common.{◌≡◌, ◌≤◌, length, drop, slice_get}
use Rattle.std.specs.Option.{option_copied}
use Rattle.observe_project.proofs.Least.{rows_of}
use Rattle.observe_project.proofs.networks.two_least.Given as goal

abbrev pub invariant-loop-at : goal.invariant-loop-at
invariant-loop-at l = record {
  within : l.at ≤ length l.rows;
  first : option_copied l.least.first ≡ slice_get (rows_of l.name (drop l.at l.rows)) 0;
  second : option_copied l.least.second ≡ slice_get (rows_of l.name (drop l.at l.rows)) 1;
}

abbrev pub decreases-loop-at : goal.decreases-loop-at
decreases-loop-at l = l.at
