-- The attributes of a service, of which those that begin with `x-` are passed over.
use Rattle.std.specs.Prelude.{ℕ, Bool, List, [], ◌∷◌, Option, Some, None, Ok, codes, if◌then◌else◌}
use Rattle.tree_base.specs.Answers.{◌>>=◌}
use Rattle.tree_base.specs.declared.Tree.{Tree, out-Tree}
use Rattle.attribute_types.specs.Answers.{refused}
use Rattle.attribute_types.specs.Tables.{form_of}
use Rattle.attribute_types.specs.declared.attribute.Attribute.{Attribute}
use Rattle.attribute_types.specs.declared.attribute.Value.{Value}
use Rattle.attribute_types.specs.declared.form.Form.{Form}
use Rattle.attribute_types.specs.declared.refusal.Fault.{Fault}
use Rattle.attribute_values.specs.Fields.{named, unless_null}
use Rattle.attribute_values.specs.Forms.{plain_value}
use Rattle.attribute_scalars.specs.Walks.{Entries, Read, each_entry, in_byte_order, is_in, is_there, own_entries, with_wanting}
use Rattle.attribute_rows.specs.Rows.{row_value}

-- what stands at an attribute of a service, by its form
abbrev pub form_value : Form → Bool → Entries → Tree → Read (Option Value)
form_value (Form.Plain plain) wanted beside tree =
    unless_null wanted (plain_value plain beside tree) (out-Tree tree)
form_value (Form.Own row) wanted beside tree = unless_null wanted (row_value row) (out-Tree tree)
form_value Form.Consumed wanted beside tree = Ok None

-- what stands under a name, where the tables have it
abbrev pub attribute_by : Option Form → Bool → Entries → List ℕ → Tree → Read (List Attribute)
attribute_by None wanted beside name tree = refused Fault.UnknownAttribute
attribute_by (Some form) wanted beside name tree =
    form_value form wanted beside tree >>= λ value. Ok (named name value)

-- what stands under a name of a service, of which some have to be there
abbrev pub attribute_under : List (List ℕ) → Entries → List ℕ → Tree → Read (List Attribute)
attribute_under wanted beside name tree =
    attribute_by (form_of name) (is_in wanted name) beside name tree

-- a service has an image, unless it is built
abbrev pub wanted_of_service : Entries → List (List ℕ)
wanted_of_service entries = if is_there entries (codes "build") then [] else codes "image" ∷ []

-- the attributes of a service by its entries that extend nothing
abbrev pub attributes_from : Entries → Read (List Attribute)
attributes_from entries =
    let wanted = wanted_of_service entries in
    each_entry (attribute_under wanted entries) (in_byte_order (with_wanting wanted entries))

-- the attributes of a service, in byte order of their names, or the first that is refused
abbrev pub attributes_of : Entries → Read (List Attribute)
attributes_of entries = attributes_from (own_entries entries)
