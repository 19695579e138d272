use Rattle.std.proofs.Common.{◌≡◌, [], drop, map}
use Rattle.tree_base.specs.declared.Tree.{out-Tree}
use Rattle.attribute_values.specs.Forms.{update_option}
use Rattle.attribute_scalars.specs.Views.{seen_entry}
use Rattle.attribute_scalars.specs.Walks.{each_entry}
use Rattle.attribute_scalars.proofs.Walks.{Behind}
use Rattle.attribute_values.proofs.deploy.ask_update_entries.Given as goal

abbrev pub invariant-loop-entry : goal.invariant-loop-entry
invariant-loop-entry l =
    Behind (λ key tree. update_option key (out-Tree tree)) [] (drop l.entry-index (map seen_entry l.entries))
    ≡ each_entry (λ key tree. update_option key (out-Tree tree)) (map seen_entry l.entries)
