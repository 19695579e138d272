use Rattle.std.proofs.Common.{◌≡◌, ◌∙◌, ◌∷◌, [], Ok, ap, codes, subst, sym}
use Rattle.tree_base.specs.declared.Tree.{out-Tree}
use Rattle.attribute_types.specs.Tables.{Lines, file_use_lines}
use Rattle.attribute_types.specs.declared.form.Plain.{Plain}
use Rattle.attribute_values.specs.Fields.{fields_of}
use Rattle.attribute_rows.specs.Folders.{folder_of}
use Rattle.attribute_rows.specs.Rows.{entries_in, file_use_from, in_mapping}
use Rattle.attribute_rows.proofs.Chaining.{made_of}
use Rattle.attribute_rows.proofs.files.file_use_of.Goals as goal

pub returns : goal.returns
returns c =
    let shape = out-Tree c.args.tree.now in
    let found = c.in_ok-attributes.attributes in
    let make = file_use_from (folder_of c.args.files) in
    let given : in_mapping (fields_of file_use_lines (codes "source" ∷ [])) shape ≡ Ok found =
    subst (λ (lines : Lines Plain). in_mapping (fields_of lines (codes "source" ∷ [])) shape ≡ Ok found) c.file_use_lines.ensures c.in_ok-attributes.ensures in
    made_of (entries_in shape) (fields_of file_use_lines (codes "source" ∷ [])) make found given
    ∙ ap (λ u. Ok u) (ap make (sym c.as_slice.ensures) ∙ sym c.in_ok-file_use_from.ensures)
