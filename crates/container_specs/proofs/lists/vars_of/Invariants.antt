use Rattle.std.proofs.Common.{◌≡◌, take}
use Rattle.container_specs.specs.Lists.{vars_of}
use Rattle.container_specs.proofs.lists.vars_of.Given as goal

abbrev pub invariant-loop-at : goal.invariant-loop-at
invariant-loop-at l = l.vars ≡ vars_of (take l.at l.pairs)
