use Rattle.std.proofs.Common.{◌∙◌, ℕ, List, ap, map}
use Rattle.tree_base.specs.declared.Tree.{Tree, out-Tree}
use Rattle.attribute_values.specs.Forms.{deploy_option}
use Rattle.attribute_scalars.specs.Views.{passed, seen_entry}
use Rattle.attribute_scalars.specs.Walks.{each_entry, in_byte_order}
use Rattle.attribute_scalars.specs.declared.entries.Entry.{Entry}
use Rattle.attribute_scalars.proofs.Walks.{gives_same}
use Rattle.attribute_values.proofs.deploy.ask_deploy.Goals as goal

pub returns : goal.returns
returns c =
    let read = λ (key : List ℕ) (tree : Tree). deploy_option key (out-Tree tree) in
    gives_same (passed c.ask_deploy_entries.result) _ _
    (ap (λ (list : List Entry). each_entry read (map seen_entry list)) c.as_slice.ensures.value ∙ ap (each_entry read) (c.in_ok-sorted.ensures.value ∙ ap in_byte_order c.in_ok-entries_of.ensures.value)) c.ask_deploy_entries.ensures
