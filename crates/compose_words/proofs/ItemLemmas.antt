-- How words fall into items, one item after the other.
use Rattle.std.proofs.Common.{◌≡◌, ℕ, zero, suc, ◌+◌, ◌-◌, ◌≤◌, Bool, true, false, cond, List, [], ◌∷◌, length, drop, ◌∙◌, ap, sym, subst, refl, arith, add-one, drop-drop}
use Rattle.std.specs.Prelude.{Option, Some, None, slice_get, ◌==◌, ◌&&◌, is_none}
use Rattle.std.specs.Option.{option_map_or}
use Rattle.std.proofs.lemmas.Bool.Decides.{nat_tests}
use Rattle.compose_words.specs.Items.{items_from, item_of, own_text, role_of, kind_of, takes_next, value_of, width_of}
use Rattle.compose_words.specs.Table.{takes_value}
use Rattle.compose_words.specs.declared.table.ValueKind.{ValueKind}
use Rattle.compose_words.specs.declared.item.Item.{Item}
use Rattle.compose_words.specs.declared.item.Value.{Value}

-- how many words an item with this value takes
abbrev width_with : ℕ → Option Value → ℕ
width_with at value = option_map_or (λ (v : Value). cond (v.at == at) 1 2) value 1

same_place : (at width : ℕ) → width ≡ cond (at == at) 1 2 → width ≡ 1
same_place at width e = grind (arith, nat_tests)

next_place : (at width : ℕ) → width ≡ cond (at + 1 == at) 1 2 → width ≡ 2
next_place at width e = grind (arith, nat_tests)

one_or_two : (b : Bool) → 1 ≤ cond b 1 2
one_or_two true = omega arith
one_or_two false = omega arith

width-least : (at : ℕ) (value : Option Value) → 1 ≤ width_with at value
width-least at None = omega arith
width-least at (Some value) = one_or_two (value.at == at)

most_two : (b : Bool) → cond b 1 2 ≤ 2
most_two true = omega arith
most_two false = omega arith

width-most : (at : ℕ) (value : Option Value) → width_with at value ≤ 2
width-most at None = omega arith
width-most at (Some value) = most_two (value.at == at)

-- an item takes one word or two
pub width_least : (item : Item) → 1 ≤ width_of item
width_least item = width-least item.at item.value

pub width_most : (item : Item) → width_of item ≤ 2
width_most item = width-most item.at item.value

-- the last word takes no other
width-alone : (kind : ValueKind) (at : ℕ) (own : Option (List ℕ)) → width_with at (value_of kind at own None) ≡ 1
width-alone ValueKind.Flag at own = refl
width-alone ValueKind.Text at None = refl
width-alone ValueKind.Text at (Some text) = same_place at _ refl
width-alone (ValueKind.Number least most) at None = refl
width-alone (ValueKind.Number least most) at (Some text) = same_place at _ refl
width-alone ValueKind.Workers at None = refl
width-alone ValueKind.Workers at (Some text) = same_place at _ refl
width-alone ValueKind.Format at None = refl
width-alone ValueKind.Format at (Some text) = same_place at _ refl
width-alone ValueKind.Scale at None = refl
width-alone ValueKind.Scale at (Some text) = same_place at _ refl

pub width_alone : (at : ℕ) (word : List ℕ) → width_of (item_of at word None) ≡ 1
width_alone at word = width-alone (kind_of (role_of word)) at (own_text word)

-- a word before another one takes it where a value belongs to it and it has none of its own
width-next : (kind : ValueKind) (at : ℕ) (own : Option (List ℕ)) (next : List ℕ) → width_with at (value_of kind at own (Some next)) ≡ cond (takes_value kind && is_none own) 2 1
width-next ValueKind.Flag at own next = refl
width-next ValueKind.Text at None next = next_place at _ refl
width-next ValueKind.Text at (Some text) next = same_place at _ refl
width-next (ValueKind.Number least most) at None next = next_place at _ refl
width-next (ValueKind.Number least most) at (Some text) next = same_place at _ refl
width-next ValueKind.Workers at None next = next_place at _ refl
width-next ValueKind.Workers at (Some text) next = same_place at _ refl
width-next ValueKind.Format at None next = next_place at _ refl
width-next ValueKind.Format at (Some text) next = same_place at _ refl
width-next ValueKind.Scale at None next = next_place at _ refl
width-next ValueKind.Scale at (Some text) next = same_place at _ refl

taken : (takes : Bool) (at width : ℕ) (item : Item) (next : List ℕ) (words : List (List ℕ)) → width ≡ cond takes 2 1
    → item ∷ (cond takes (items_from (at + 2) words) (items_from (at + 1) (next ∷ words))) ≡ item ∷ items_from (at + width) (drop (width - 1) (next ∷ words))
taken true at width item next words e = rw e
taken false at width item next words e = rw e

-- the items of words are the item of the first one, and those behind the words that it takes
items_from-word : (at : ℕ) (word : List ℕ) (rest : List (List ℕ))
    → let item = item_of at word (slice_get rest 0) in items_from at (word ∷ rest) ≡ item ∷ items_from (at + width_of item) (drop (width_of item - 1) rest)
items_from-word at word [] =
    let e = width-alone (kind_of (role_of word)) at (own_text word) in rw e
items_from-word at word (next ∷ words) =
    taken (takes_next word) at _ _ next words (width-next (kind_of (role_of word)) at (own_text word) next)

slice_get-drop : (words : List (List ℕ)) (n : ℕ) → slice_get (drop n words) 0 ≡ slice_get words n
slice_get-drop [] zero = refl
slice_get-drop [] (suc n) = refl
slice_get-drop (word ∷ words) zero = refl
slice_get-drop (word ∷ words) (suc n) = slice_get-drop words n

drop_at : (words : List (List ℕ)) (n : ℕ) (word : List ℕ) → slice_get words n ≡ Some word → drop n words ≡ word ∷ drop (suc n) words
drop_at [] n word e = cc
drop_at (first ∷ words) zero word e = let same : first ≡ word = cc in ap (λ w. w ∷ words) same
drop_at (first ∷ words) (suc n) word e = drop_at words n word e

drop-taken : (width at : ℕ) (words : List (List ℕ)) → 1 ≤ width → drop (width - 1) (drop (at + 1) words) ≡ drop (at + width) words
drop-taken width at words some =
    let sum : at + 1 + (width - 1) ≡ at + width = omega arith in
    drop-drop (width - 1) (at + 1) words ∙ ap (λ n. drop n words) sum

-- the items from a place on are the item of the word there, and those behind the words that it takes
pub items_from-next : (words : List (List ℕ)) (at : ℕ) (word : List ℕ) (item : Item) → slice_get words at ≡ Some word
    → item ≡ item_of at word (slice_get words (at + 1))
    → items_from at (drop at words) ≡ item ∷ items_from (at + width_of item) (drop (at + width_of item) words)
items_from-next words at word item here is =
    let rest = drop (at + 1) words in
    let front : drop at words ≡ word ∷ rest = rw add-one (drop_at words at word here) in
    let same : item_of at word (slice_get rest 0) ≡ item = ap (item_of at word) (slice_get-drop words (at + 1)) ∙ sym is in
    let one = subst (λ (i : Item). items_from at (word ∷ rest) ≡ i ∷ items_from (at + width_of i) (drop (width_of i - 1) rest)) same (items_from-word at word rest) in
    ap (items_from at) front ∙ one ∙ ap (λ ws. item ∷ items_from (at + width_of item) ws) (drop-taken (width_of item) at words (width-least item.at item.value))

-- where there is no word, all words have been passed
pub length_past : (words : List (List ℕ)) (n : ℕ) → slice_get words n ≡ None → length words ≤ n
length_past [] n e = omega arith
length_past (word ∷ words) zero e = cc
length_past (word ∷ words) (suc n) e = omega (arith, length_past words n e)
