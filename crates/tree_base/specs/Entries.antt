-- A map as the list of its entries, in the order of their first puts.
pub use Rattle.indexmap.specs.IndexMap.{insert_entry}
use Rattle.std.specs.Prelude.{ℕ, List, Option}
use Rattle.std.specs.List.{IsDistinct}
use Rattle.std.specs.Map.{keys_of, lookup, remove_entry}
use Rattle.std.specs.Str.{bytes_eq}

module _ {V : Type 0} where
  -- the value under a key
  abbrev pub value_at : List (List ℕ × V) → List ℕ → Option V
  value_at entries key = lookup (bytes_eq key) entries

  -- the entries after a put: a key that is there keeps its place, and a new one goes last
  abbrev pub with_entry : List (List ℕ × V) → List ℕ → V → List (List ℕ × V)
  with_entry = insert_entry bytes_eq

  -- the entries without a key
  abbrev pub without_entry : List (List ℕ × V) → List ℕ → List (List ℕ × V)
  without_entry entries key = remove_entry (bytes_eq key) entries

  -- no two keys are the same
  abbrev pub HasDistinctKeys : List (List ℕ × V) → Type 0
  HasDistinctKeys entries = IsDistinct bytes_eq (keys_of entries)
