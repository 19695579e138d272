-- The kinds of a service's attributes, by the table (Compose Specification, services).
use Rattle.std.specs.Prelude.{ℕ, List, Option}
use Rattle.std.specs.Option.{option_map}
use Rattle.attribute_types.specs.Tables.{form_of}
use Rattle.attribute_types.specs.declared.form.Form.{Form}
use Rattle.attribute_types.specs.declared.form.Plain.{Plain}
use Rattle.attribute_types.specs.declared.kind.AttrKind.{AttrKind}

-- the kind of what stands at an attribute without attributes of its own; a form that is no more than one kind's has that kind
abbrev pub plain_kind : Plain → AttrKind
plain_kind Plain.Text = AttrKind.Text
plain_kind Plain.Bool = AttrKind.Bool
plain_kind Plain.Flag = AttrKind.Bool
plain_kind Plain.Num = AttrKind.Num
plain_kind Plain.Scale = AttrKind.Num
plain_kind Plain.Int = AttrKind.Int
plain_kind Plain.List = AttrKind.List
plain_kind (Plain.Items form) = AttrKind.List
plain_kind Plain.Pairs = AttrKind.Pairs
plain_kind Plain.Labels = AttrKind.Pairs
plain_kind Plain.Argv = AttrKind.Argv
plain_kind Plain.Duration = AttrKind.Duration
plain_kind Plain.Size = AttrKind.Size
plain_kind Plain.Decimal = AttrKind.Decimal
plain_kind plain = AttrKind.Own

-- the kind of what stands at a service's attribute
abbrev pub kind_in : Form → AttrKind
kind_in (Form.Plain plain) = plain_kind plain
kind_in (Form.Own row) = AttrKind.Own
kind_in Form.Consumed = AttrKind.Consumed

-- the kind of the attribute with a name, where the table has it
abbrev pub kind_of : List ℕ → Option AttrKind
kind_of name = option_map kind_in (form_of name)
