use Rattle.std.proofs.Common.{◌∙◌, List, ap, map}
use Rattle.attribute_types.specs.Tables.{seen_line}
use Rattle.attribute_values.specs.Fields.{field_of}
use Rattle.attribute_scalars.specs.Views.{seen_entry}
use Rattle.attribute_scalars.specs.Walks.{each_entry, in_byte_order}
use Rattle.attribute_scalars.specs.declared.entries.Entry.{Entry}
use Rattle.attribute_scalars.proofs.Walks.{gives_same}
use Rattle.attribute_values.proofs.fields.fields_of.Goals as goal

pub returns : goal.returns
returns c =
    let read = field_of (map seen_line c.args.lines.now) (map (λ name. name.now) c.args.wanted.now) (map seen_entry c.args.entries.now) in
    gives_same c.fields_among.result _ _
    (ap (λ (list : List Entry). each_entry read (map seen_entry list)) c.as_slice.ensures.value ∙ ap (each_entry read) (c.in_ok-sorted.ensures.value ∙ ap in_byte_order c.in_ok-with_wanting.ensures.value)) c.fields_among.ensures
