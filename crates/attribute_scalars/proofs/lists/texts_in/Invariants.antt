use Rattle.std.proofs.Common.{◌≡◌, ◌++◌, drop}
use Rattle.std.specs.Option.{option_map}
use Rattle.tree_base.specs.declared.Tree.{out-Tree}
use Rattle.attribute_scalars.specs.Lists.{collected, text_in}
use Rattle.attribute_scalars.proofs.lists.texts_in.Given as goal

abbrev pub invariant-loop-item : goal.invariant-loop-item
invariant-loop-item l =
    option_map (λ xs. l.texts ++ xs) (collected (λ tree. text_in (out-Tree tree)) (drop l.item-index l.items))
    ≡ collected (λ tree. text_in (out-Tree tree)) l.items
