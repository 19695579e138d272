use Rattle.std.proofs.Common.{◌≡◌, ◌++◌, drop, map}
use Rattle.tree_base.specs.declared.Tree.{Scalar}
use Rattle.long_forms.proofs.texts.scalars.Given as goal

-- what is there and the texts that are left are all texts
abbrev pub invariant-loop-text : goal.invariant-loop-text
invariant-loop-text l = l.items ++ map Scalar (drop l.text-index l.texts) ≡ map Scalar l.texts
