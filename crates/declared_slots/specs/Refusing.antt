-- What a declared set is refused for.
use Rattle.std.specs.Prelude.{ℕ, not, List, [], ◌∷◌, Option, Some, None, find, if◌then◌else◌}
use Rattle.std.specs.Option.{option_map}
use Rattle.std.specs.Str.{bytes_eq}
use Rattle.tree_base.specs.ByteOrder.{by_key}
use Rattle.attribute_scalars.specs.Walks.{is_in}
use Rattle.compose_words.specs.declared.options.Scale.{Scale}

-- the first service that words scale and whose key isn't among those that are there
abbrev pub unknown_scale : List Scale → List (List ℕ) → Option (List ℕ)
unknown_scale scales keys =
    option_map (λ scale. scale.service) (find (λ scale. not (is_in keys scale.service)) scales)

-- the first of names in order that the next one is too
abbrev pub twice_behind : List ℕ → List (List ℕ) → Option (List ℕ)
twice_behind name [] = None
twice_behind name (next ∷ names) =
    if bytes_eq name next then Some name else twice_behind next names

-- the first of names in order that stands twice
abbrev pub twice_in_order : List (List ℕ) → Option (List ℕ)
twice_in_order [] = None
twice_in_order (name ∷ names) = twice_behind name names

-- the least of names that stands twice
abbrev pub twice_named : List (List ℕ) → Option (List ℕ)
twice_named names = twice_in_order (by_key (λ name. name) names)
