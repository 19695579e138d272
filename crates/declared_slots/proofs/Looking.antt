-- What no map has stands under none of its keys.
use Rattle.std.proofs.Common.{◌≡◌, ◌∙◌, ◌||◌, ℕ, Bool, true, false, List, [], ◌∷◌, Option, Some, None, cond, not, refl, ap}
use Rattle.std.specs.Map.{keys_of, lookup}
use Rattle.std.specs.Option.{is_none}
use Rattle.std.specs.Str.{bytes_eq}
use Rattle.attribute_scalars.specs.Walks.{is_in}
use Rattle.tree_base.specs.Entries.{value_at}

pub no_value : {V : Type 0} (entries : List (List ℕ × V)) (key : List ℕ) → is_none (value_at entries key) ≡ not (is_in (keys_of entries) key)
no_value [] key = refl
no_value {V} (entry ∷ entries) key = by (bytes_eq key entry.0) (no_value entries key)
  where
    by : (b : Bool) → is_none (value_at entries key) ≡ not (is_in (keys_of entries) key)
        → is_none (cond b (Some entry.1) (value_at entries key)) ≡ not (b || is_in (keys_of entries) key)
    by true later = refl
    by false later = later
