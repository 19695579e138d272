use Rattle.std.proofs.Common.{◌≡◌, drop, map}
use Rattle.tree_base.specs.declared.Tree.{out-Tree}
use Rattle.attribute_values.specs.Forms.{bind_option}
use Rattle.attribute_scalars.specs.Views.{seen_entry}
use Rattle.attribute_scalars.specs.Walks.{each_entry}
use Rattle.attribute_scalars.proofs.Walks.{Behind}
use Rattle.attribute_values.proofs.forms.labels_among.Given as goal

abbrev pub invariant-loop-option : goal.invariant-loop-option
invariant-loop-option l =
    Behind (λ key tree. bind_option key (out-Tree tree)) l.labels (drop l.option-index (map seen_entry l.options))
    ≡ each_entry (λ key tree. bind_option key (out-Tree tree)) (map seen_entry l.options)
