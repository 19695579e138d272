-- The attributes of a mapping, by the table that has them.
use Rattle.std.specs.Prelude.{ℕ, Bool, true, false, List, [], ◌∷◌, Option, Some, None, Ok}
use Rattle.tree_base.specs.Answers.{◌>>=◌}
use Rattle.tree_base.specs.declared.Tree.{Tree, out-Tree}
use Rattle.tree_base.specs.declared.Tree.TheOpen.{Tree-F}
use Rattle.attribute_types.specs.Answers.{refused}
use Rattle.attribute_types.specs.Tables.{Lines, line_of}
use Rattle.attribute_types.specs.declared.attribute.Attribute.{Attribute}
use Rattle.attribute_types.specs.declared.attribute.Value.{Value}
use Rattle.attribute_types.specs.declared.form.Plain.{Plain}
use Rattle.attribute_types.specs.declared.refusal.Fault.{Fault}
use Rattle.attribute_values.specs.Forms.{plain_value}
use Rattle.attribute_scalars.specs.Walks.{Entries, Read, each_entry, in_byte_order, is_in, with_wanting}

-- what null gives: it is absence, and refused where a value is wanted
abbrev pub absence : Bool → Read (Option Value)
absence true = refused Fault.BadValue
absence false = Ok None

-- what a tree gives, which may be null
abbrev pub unless_null : Bool → (Tree-F Tree → Read (Option Value)) → Tree-F Tree → Read (Option Value)
unless_null wanted read Tree-F.Null = absence wanted
unless_null wanted read tree = read tree

-- the attribute of a value, where there is one
abbrev pub named : List ℕ → Option Value → List Attribute
named name None = []
named name (Some value) = record { name = name; value = value } ∷ []

-- what stands under a name, where the table has it
abbrev pub field_by : Option Plain → Bool → Entries → List ℕ → Tree → Read (List Attribute)
field_by None wanted beside name tree = refused Fault.UnknownAttribute
field_by (Some plain) wanted beside name tree =
    unless_null wanted (plain_value plain beside tree) (out-Tree tree) >>= λ value. Ok (named name value)

-- what stands under a name of a table
abbrev pub field_of : Lines Plain → List (List ℕ) → Entries → List ℕ → Tree → Read (List Attribute)
field_of lines wanted beside name tree =
    field_by (line_of lines name) (is_in wanted name) beside name tree

-- the attributes of entries by a table, in byte order of their names, where some have to be there; or the first that is refused, of
-- those that stand there and those that are wanting
abbrev pub fields_of : Lines Plain → List (List ℕ) → Entries → Read (List Attribute)
fields_of lines wanted entries =
    each_entry (field_of lines wanted entries) (in_byte_order (with_wanting wanted entries))
