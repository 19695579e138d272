-- The attributes of a list, by their names.
use Rattle.std.specs.Prelude.{ℕ, List, Option, find}
use Rattle.std.specs.Option.{option_map}
use Rattle.std.specs.Str.{bytes_eq}
use Rattle.attribute_types.specs.declared.attribute.Attribute.{Attribute}
use Rattle.attribute_types.specs.declared.attribute.Value.{Value}

-- the value of the attribute with a name, where there is one
abbrev pub value_at : List Attribute → List ℕ → Option Value
value_at attributes name =
    option_map (λ attribute. attribute.value)
    (find (λ attribute. bytes_eq attribute.name name) attributes)
