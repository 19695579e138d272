use Rattle.std.proofs.Common.{◌≡◌, drop}
use Rattle.tree_base.specs.declared.Tree.{out-Tree}
use Rattle.attribute_scalars.specs.Walks.{each_item}
use Rattle.attribute_scalars.proofs.Walks.{ItemsBehind}
use Rattle.attribute_rows.specs.Folders.{folder_of}
use Rattle.attribute_rows.specs.Rows.{file_use_of, in_mapping}
use Rattle.attribute_rows.proofs.files.file_uses_in.Given as goal

abbrev pub invariant-loop-at : goal.invariant-loop-at
invariant-loop-at l =
    ItemsBehind (λ item. in_mapping (file_use_of (folder_of l.files)) (out-Tree item)) l.list l.at (drop l.at l.items)
    ≡ each_item (λ item. in_mapping (file_use_of (folder_of l.files)) (out-Tree item)) 0 l.items
