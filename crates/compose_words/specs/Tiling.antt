-- How items lie beside one another on a command line.
use Rattle.std.specs.Prelude.{◌≡◌, ℕ, ◌+◌, List, [], ◌∷◌, Option, Some, length, slice_get}
use Rattle.std.specs.Option.{option_map}
use Rattle.compose_words.specs.Items.{item_of, width_of}
use Rattle.compose_words.specs.declared.item.Item.{Item}

-- the item that begins with the word at a place, if there is a word
abbrev pub item_at : List (List ℕ) → ℕ → Option Item
item_at words at = option_map (λ word. item_of at word (slice_get words (at + 1))) (slice_get words at)

-- the items take the words from a place up to the last one: the first item begins at the place, and each other one
-- behind the words of the item before it
abbrev pub Tiles : List (List ℕ) → ℕ → List Item → Type 0
Tiles words from [] = from ≡ length words
Tiles words from (item ∷ items) = (item_at words from ≡ Some item) × Tiles words (from + width_of item) items
