-- The items of a command line are the one list of items that takes each of its words once.
use Rattle.std.proofs.Common.{◌≡◌, ℕ, zero, suc, ◌+◌, ◌≤◌, List, [], ◌∷◌, length, drop, ◌∙◌, ap, sym, subst, refl, arith}
use Rattle.std.proofs.Math.ListN.{drop_of_length-le}
use Rattle.std.specs.Prelude.{Option, Some, None, slice_get}
use Rattle.std.specs.Option.{option_map}
use Rattle.compose_words.specs.Items.{items_from, items_of, item_of, width_of}
use Rattle.compose_words.specs.Tiling.{Tiles, item_at}
use Rattle.compose_words.specs.declared.item.Item.{Item}
use Rattle.compose_words.proofs.ItemLemmas.{items_from-next, length_past, width_least, width_most, width_alone}

-- a word stands before the end
word_before : (words : List (List ℕ)) (n : ℕ) (word : List ℕ) → slice_get words n ≡ Some word → n + 1 ≤ length words
word_before [] n word e = cc
word_before (first ∷ words) zero word e = omega arith
word_before (first ∷ words) (suc n) word e = omega (arith, word_before words n word e)

-- an item doesn't reach past the last word
width_within : (words : List (List ℕ)) (at : ℕ) (word : List ℕ) (next : Option (List ℕ)) → slice_get words at ≡ Some word → slice_get words (at + 1) ≡ next
    → at + width_of (item_of at word next) ≤ length words
width_within words at word None e f = rw (width_alone at word) (word_before words at word e)
width_within words at word (Some next) e f =
    let past = word_before words (at + 1) next f in
    omega (arith, past, width_most (item_of at word (Some next)))

module _ (words : List (List ℕ)) (at : ℕ) where
  -- the items from this place on take the rest of the words
  abbrev TileOn : Type 0
  TileOn = Tiles words at (items_from at (drop at words))

  tiles_end : at ≤ length words → length words ≤ at → TileOn
  tiles_end k past =
      let end : at ≡ length words = omega (arith, k, past) in
      subst (λ (items : List Item). Tiles words at items) (sym (ap (items_from at) (drop_of_length-le words past))) end

  tiles_here : (word : Option (List ℕ)) → slice_get words at ≡ word → at ≤ length words
      → ((item : Item) → at + width_of item ≤ length words → Tiles words (at + width_of item) (items_from (at + width_of item) (drop (at + width_of item) words)))
      → TileOn
  tiles_here None e k more = tiles_end k (length_past words at e)
  tiles_here (Some word) e k more =
      let item : Item = item_of at word (slice_get words (at + 1)) in
      let first : item_at words at ≡ Some item = ap (option_map (λ w. item_of at w (slice_get words (at + 1)))) e in
      subst (λ (items : List Item). Tiles words at items) (sym (items_from-next words at word item e refl)) (first, more item (width_within words at word _ e refl))

tiles : (fuel : ℕ) (words : List (List ℕ)) (at : ℕ) → length words ≤ at + fuel → at ≤ length words → TileOn words at
tiles zero words at h k = tiles_end words at k (omega (arith, h))
tiles (suc fuel) words at h k =
    tiles_here words at (slice_get words at) refl k (λ item within. tiles fuel words (at + width_of item) (omega (arith, h, width_least item)) within)

-- the items of a command line take each of its words once
pub items_tile : (words : List (List ℕ)) → Tiles words 0 (items_of words)
items_tile words = tiles (length words) words 0 (omega arith) (omega arith)

module _ (words : List (List ℕ)) (at : ℕ) (item : Item) (items : List Item) where
  only_here : (word : Option (List ℕ)) → slice_get words at ≡ word → item_at words at ≡ Some item
      → items ≡ items_from (at + width_of item) (drop (at + width_of item) words)
      → item ∷ items ≡ items_from at (drop at words)
  only_here None e h more =
      let none : None ≡ Some item = sym (ap (option_map (λ w. item_of at w (slice_get words (at + 1)))) e) ∙ h in cc
  only_here (Some word) e h more =
      let some : Some (item_of at word (slice_get words (at + 1))) ≡ Some item = sym (ap (option_map (λ w. item_of at w (slice_get words (at + 1)))) e) ∙ h in
      let is : item ≡ item_of at word (slice_get words (at + 1)) = cc in
      ap (λ rest. item ∷ rest) more ∙ sym (items_from-next words at word item e is)

only_from : (items : List Item) (words : List (List ℕ)) (at : ℕ) → Tiles words at items → items ≡ items_from at (drop at words)
only_from [] words at h = sym (ap (items_from at) (drop_of_length-le words (omega (arith, h))))
only_from (item ∷ items) words at h = only_here words at item items (slice_get words at) refl h.0 (only_from items words (at + width_of item) h.1)

-- no other items do
pub only_items : (words : List (List ℕ)) (items : List Item) → Tiles words 0 items → items ≡ items_of words
only_items words items h = only_from items words 0 h
