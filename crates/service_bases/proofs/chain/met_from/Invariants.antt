use Rattle.std.proofs.Common.{◌≡◌, ◌++◌, ◌-◌, length}
use Rattle.service_bases.specs.Chains.{met_from}
use Rattle.service_bases.proofs.chain.met_from.Given as goal

abbrev pub invariant-loop-at : goal.invariant-loop-at
invariant-loop-at l = l.met ++ met_from l.at l.layers ≡ met_from l.place l.layers

abbrev pub decreases-loop-at : goal.decreases-loop-at
decreases-loop-at l = length l.layers - l.at
