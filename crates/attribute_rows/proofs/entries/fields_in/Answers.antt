use Rattle.std.proofs.Common.{◌∙◌, List, ap, map, sym}
use Rattle.tree_base.specs.declared.Tree.{out-Tree}
use Rattle.attribute_types.specs.Tables.{seen_line}
use Rattle.attribute_scalars.specs.Views.{seen_entry}
use Rattle.attribute_scalars.specs.declared.entries.Entry.{Entry}
use Rattle.attribute_scalars.proofs.Walks.{gives_same}
use Rattle.attribute_values.specs.Fields.{fields_of}
use Rattle.attribute_rows.proofs.Passing.{goes_on}
use Rattle.attribute_rows.specs.Rows.{entries_in}
use Rattle.attribute_rows.proofs.entries.fields_in.Goals as goal

pub returns : goal.returns
returns c =
    let read = fields_of (map seen_line c.args.lines.now) (map (λ name. name.now) c.args.wanted.now) in
    gives_same c.fields_of.result _ _
    (ap (λ (list : List Entry). read (map seen_entry list)) c.as_slice.ensures.value
    ∙ ap read c.in_ok-list.ensures.value
    ∙ sym (goes_on (entries_in (out-Tree c.args.tree.now)) read c.in_ok-entries.entries.now c.in_ok-entries.ensures)) c.fields_of.ensures
