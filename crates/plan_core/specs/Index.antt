-- Numbers that stand under texts.
use Rattle.std.specs.Prelude.{ℕ, ◌+◌, Bool, List, [], ◌∷◌, ◌++◌, filter, map}
use Rattle.std.specs.List.{list_any}
use Rattle.std.specs.Str.{bytes_eq}
use denote.Ref.{Bor}

-- the entries of an index, as they are seen through the borrows that it holds
abbrev pub seen_entries : List (Bor (List ℕ) × ℕ) → List (List ℕ × ℕ)
seen_entries entries = map (λ entry. (entry.0.now, entry.1)) entries

-- texts, as they are seen through borrows
abbrev pub seen_texts : List (Bor (List ℕ)) → List (List ℕ)
seen_texts texts = map (λ text. text.now) texts

-- a number under each of these texts
abbrev pub under_each : List (List ℕ) → ℕ → List (List ℕ × ℕ)
under_each texts number = map (λ text. (text, number)) texts

-- the numbers that stand under this text, in the order of the entries
abbrev pub numbers_under : List (List ℕ × ℕ) → List ℕ → List ℕ
numbers_under entries text =
    map (λ entry. entry.1) (filter (λ entry. bytes_eq text entry.0) entries)

-- whether a number stands under this text
abbrev pub is_under : List (List ℕ × ℕ) → List ℕ → Bool
is_under entries text = list_any (λ entry. bytes_eq text entry.0) entries

-- the places of a list, from this one on, under the texts of their items
abbrev pub places_under : {X : Type 0} → (X → List (List ℕ)) → ℕ → List X
    → List (List ℕ × ℕ)
places_under texts at [] = []
places_under texts at (x ∷ xs) = under_each (texts x) at ++ places_under texts (at + 1) xs
