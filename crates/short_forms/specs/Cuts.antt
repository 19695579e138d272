-- Where a text is cut.
use Rattle.std.specs.Prelude.{ℕ, ◌+◌, ◌==◌, List, [], ◌∷◌, Option, take, drop}
use Rattle.std.specs.List.{onto_first, position, slice_split}
use Rattle.std.specs.Option.{option_map}

-- what stands before and after the first byte `at`, where there is one
abbrev pub cut_once : ℕ → List ℕ → Option (List ℕ × List ℕ)
cut_once at text = option_map (λ place. (take place text, drop (place + 1) text)) (position (λ b. b == at) text)

-- the parts of a text between the bytes `at`, of which there is one at least
abbrev pub parts_at : ℕ → List ℕ → List (List ℕ)
parts_at at text = slice_split (λ b. b == at) text

-- bytes in front of the first of some parts
abbrev pub in_front : List ℕ → List (List ℕ) → List (List ℕ)
in_front [] parts = parts
in_front (b ∷ bs) parts = onto_first b (in_front bs parts)
