-- Lists of texts as the Engine takes them: sets in byte order, and nothing where there is nothing to say.
use Rattle.std.specs.Prelude.{ℕ, List, [], ◌∷◌, Option, Some, None, map, unwrap_or}
use Rattle.std.specs.Option.{option_and_then}
use Rattle.tree_base.specs.ByteOrder.{by_key, first_of_each}
use Rattle.tree_base.specs.declared.Var.{Var}
use Rattle.attribute_types.specs.Lookups.{pairs_at, texts_at}
use Rattle.attribute_types.specs.declared.attribute.Attribute.{Attribute}

-- texts in byte order, each once
abbrev pub each_once : List (List ℕ) → List (List ℕ)
each_once texts = by_key (λ text. text) (first_of_each (λ text. text) texts)

-- a list that isn't empty: an empty one isn't sent
abbrev pub unless_empty : {X : Type 0} → List X → Option (List X)
unless_empty [] = None
unless_empty (x ∷ xs) = Some (x ∷ xs)

-- the texts under a name, where there are any
abbrev pub texts_of : List Attribute → List ℕ → Option (List (List ℕ))
texts_of attributes name = option_and_then unless_empty (texts_at attributes name)

-- a name with its value, of which null is the empty text
abbrev pub var_of : List ℕ → Option (List ℕ) → Var
var_of name value = record { name = name; value = unwrap_or value [] }

-- pairs as names with their values
abbrev pub vars_of : List (List ℕ × Option (List ℕ)) → List Var
vars_of pairs = map (λ pair. var_of pair.0 pair.1) pairs

-- the pairs under a name
abbrev pub named_pairs : List Attribute → List ℕ → List (List ℕ × Option (List ℕ))
named_pairs attributes name = unwrap_or (pairs_at attributes name) []
