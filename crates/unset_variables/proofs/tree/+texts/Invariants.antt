use Rattle.std.proofs.Common.{◌≡◌, ◌++◌, flat_map, map, take}
use Rattle.unset_variables.specs.Unset.{texts_in}
use Rattle.unset_variables.proofs.tree.+texts.Given as goal

abbrev pub invariant-push_all-loop-tree : goal.invariant-push_all-loop-tree
invariant-push_all-loop-tree l = map (λ text. text.now) l.texts.items ≡ map (λ text. text.now) l.initial.texts.items ++ flat_map texts_in (take l.tree-index l.trees)
