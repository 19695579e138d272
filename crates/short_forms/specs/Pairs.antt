-- A key and its value, as in the list form of `environment` and `labels` (Compose Specification, "environment").
use Rattle.std.specs.Prelude.{ℕ, ◌==◌, if◌then◌else◌, List, length, Option, None, Some}
use Rattle.short_forms.specs.Cuts.{cut_once}

-- a key that isn't empty, and what stands with it
abbrev pub keyed : List ℕ → Option (List ℕ) → Option (List ℕ × Option (List ℕ))
keyed key value = if length key == 0 then None else Some (key, value)

-- the pair of a text that is cut at its first `=`
abbrev pub pair_of : List ℕ → Option (List ℕ × List ℕ) → Option (List ℕ × Option (List ℕ))
pair_of text None = keyed text None
pair_of text (Some (key, value)) = keyed key (Some value)

-- the key and the value; without `=` there is no value
abbrev pub key_value_of : List ℕ → Option (List ℕ × Option (List ℕ))
key_value_of text = pair_of text (cut_once 61 text)
