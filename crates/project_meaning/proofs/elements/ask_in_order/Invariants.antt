use Rattle.std.proofs.Common.{◌≡◌, [], drop, map}
use Rattle.tree_base.specs.declared.Tree.{out-Tree}
use Rattle.attribute_scalars.specs.Views.{seen_entry}
use Rattle.attribute_scalars.specs.Walks.{each_entry}
use Rattle.attribute_scalars.proofs.Walks.{Behind}
use Rattle.project_meaning.specs.Meaning.{element_form}
use Rattle.project_meaning.proofs.elements.ask_in_order.Given as goal

abbrev pub invariant-loop-entry : goal.invariant-loop-entry
invariant-loop-entry l =
    Behind (λ key tree. element_form key (out-Tree tree)) [] (drop l.entry-index (map seen_entry l.entries))
    ≡ each_entry (λ key tree. element_form key (out-Tree tree)) (map seen_entry l.entries)
