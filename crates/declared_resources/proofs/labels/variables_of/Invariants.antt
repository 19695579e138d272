use Rattle.std.proofs.Common.{◌≡◌, map, take}
use Rattle.declared_resources.specs.Resources.{variable_of}
use Rattle.declared_resources.proofs.labels.variables_of.Given as goal

abbrev pub invariant-loop-at : goal.invariant-loop-at
invariant-loop-at l = l.variables.items ≡ map variable_of (take l.at l.entries)
