use Rattle.std.proofs.Common.{◌≡◌, map, take}
use Rattle.tree_base.specs.declared.Tree.{Scalar}
use Rattle.service_environments.proofs.settings.scalars.Given as goal

abbrev pub invariant-loop-text : goal.invariant-loop-text
invariant-loop-text l = l.trees ≡ map Scalar (take l.text-index l.texts)
