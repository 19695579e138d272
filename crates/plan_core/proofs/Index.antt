-- Numbers that stand under texts.
use Rattle.std.proofs.Common.{◌≡◌, ℕ, zero, suc, ◌+◌, ◌<◌, Bool, true, false, cond, List, [], ◌∷◌, ◌++◌, map, filter, length, take, get_or, slice_get, bytes_eq, Bor, refl, sym, ap, ◌∙◌, append_assoc, add-one, zero-add, arith}
use Rattle.std.specs.Option.{option_map_or}
use Rattle.std.specs.Prelude.{flat_map}
use Rattle.std.proofs.lemmas.Grind.{flat_map-append}
use Rattle.std.proofs.lemmas.List.{append-nil, map-append}
use Rattle.plan_core.specs.Index.{numbers_under, places_under, seen_entries, seen_texts, under_each}
use Rattle.plan_core.proofs.Loops.{mapped_more}

-- the numbers under a text, by the entries as they are held
pub held_under : (entries : List (Bor (List ℕ) × ℕ)) (text : List ℕ)
    → map (λ (entry : Bor (List ℕ) × ℕ). entry.1) (filter (λ (entry : Bor (List ℕ) × ℕ). bytes_eq text entry.0.now) entries) ≡ numbers_under (seen_entries entries) text
held_under [] text = refl
held_under (entry ∷ entries) text = at (bytes_eq text entry.0.now) _ _ (held_under entries text)
  where
    at : (t : Bool) (held : List (Bor (List ℕ) × ℕ)) (seen : List (List ℕ × ℕ))
        → map (λ (e : Bor (List ℕ) × ℕ). e.1) held ≡ map (λ (e : List ℕ × ℕ). e.1) seen
        → map (λ (e : Bor (List ℕ) × ℕ). e.1) (cond t (entry ∷ held) held) ≡ map (λ (e : List ℕ × ℕ). e.1) (cond t ((entry.0.now, entry.1) ∷ seen) seen)
    at true held seen rest = ap (λ (numbers : List ℕ). entry.1 ∷ numbers) rest
    at false held seen rest = rest

-- a place more, under the texts of its item
places_from : {X : Type 0} (texts : X → List (List ℕ)) (i : ℕ) (xs : List X) (n : ℕ)
    → places_under texts i (take (suc n) xs) ≡ places_under texts i (take n xs) ++ under_each (option_map_or texts (slice_get xs n) []) (i + n)
places_from texts i [] zero = refl
places_from texts i [] (suc n) = refl
places_from texts i (x ∷ xs) zero =
    let here : i ≡ i + 0 = omega arith in
    append-nil (under_each (texts x) i) ∙ ap (λ (n : ℕ). under_each (texts x) n) here
places_from texts i (x ∷ xs) (suc n) =
    let next : i + 1 + n ≡ i + suc n = omega arith in
    ap (λ (entries : List (List ℕ × ℕ)). under_each (texts x) i ++ entries) (places_from texts (i + 1) xs n)
    ∙ sym (append_assoc (under_each (texts x) i) (places_under texts (i + 1) (take n xs)) (under_each (option_map_or texts (slice_get xs n) []) (i + 1 + n)))
    ∙ ap (λ (k : ℕ). (under_each (texts x) i ++ places_under texts (i + 1) (take n xs)) ++ under_each (option_map_or texts (slice_get xs n) []) k) next

pub places_more : {X : Type 0} (texts : X → List (List ℕ)) (xs : List X) (n : ℕ)
    → places_under texts 0 (take (n + 1) xs) ≡ places_under texts 0 (take n xs) ++ under_each (option_map_or texts (slice_get xs n) []) n
places_more texts xs n =
    ap (λ (k : ℕ). places_under texts 0 (take k xs)) (add-one n) ∙ places_from texts 0 xs n
    ∙ ap (λ (k : ℕ). places_under texts 0 (take n xs) ++ under_each (option_map_or texts (slice_get xs n) []) k) (zero-add n)

-- one turn of a loop that puts places under the texts of their items
pub places_turn : {X : Type 0} (texts : X → List (List ℕ)) (xs : List X) (n : ℕ) (entries after : List (Bor (List ℕ) × ℕ))
    → seen_entries entries ≡ places_under texts 0 (take n xs) → seen_entries after ≡ seen_entries entries ++ under_each (option_map_or texts (slice_get xs n) []) n
    → seen_entries after ≡ places_under texts 0 (take (n + 1) xs)
places_turn texts xs n entries after was put =
    put ∙ ap (λ (es : List (List ℕ × ℕ)). es ++ under_each (option_map_or texts (slice_get xs n) []) n) was ∙ sym (places_more texts xs n)

module _ {X : Type 0} (f : X → List ℕ) (xs : List X) (i : ℕ) (x : X) (within : i < length xs) (is : x ≡ get_or xs i x) where
  -- one turn of a loop that puts the texts of items last
  pub texts_turn : (before texts after : List (Bor (List ℕ))) (text : Bor (List ℕ)) → seen_texts texts ≡ seen_texts before ++ map f (take i xs)
      → after ≡ texts ++ text ∷ [] → text.now ≡ f x → seen_texts after ≡ seen_texts before ++ map f (take (i + 1) xs)
  texts_turn before texts after text was pushed same =
      ap seen_texts pushed ∙ map-append (λ (t : Bor (List ℕ)). t.now) texts (text ∷ []) ∙ ap (λ (ts : List (List ℕ)). ts ++ text.now ∷ []) was
      ∙ append_assoc (seen_texts before) (map f (take i xs)) (text.now ∷ []) ∙ ap (λ (t : List ℕ). seen_texts before ++ (map f (take i xs) ++ t ∷ [])) same
      ∙ ap (λ (ts : List (List ℕ)). seen_texts before ++ ts) (sym (mapped_more xs i x within is f))

  -- one turn of a loop that puts a number last under the texts of items
  pub entries_turn : (number : ℕ) (before entries after : List (Bor (List ℕ) × ℕ)) (text : Bor (List ℕ)) → seen_entries entries ≡ seen_entries before ++ under_each (map f (take i xs)) number
      → after ≡ entries ++ (text, number) ∷ [] → text.now ≡ f x → seen_entries after ≡ seen_entries before ++ under_each (map f (take (i + 1) xs)) number
  entries_turn number before entries after text was pushed same =
      ap seen_entries pushed ∙ map-append (λ (e : Bor (List ℕ) × ℕ). let entry : List ℕ × ℕ = (e.0.now, e.1) in entry) entries ((text, number) ∷ [])
      ∙ ap (λ (es : List (List ℕ × ℕ)). es ++ (text.now, number) ∷ []) was
      ∙ append_assoc (seen_entries before) (under_each (map f (take i xs)) number) ((text.now, number) ∷ [])
      ∙ ap (λ (t : List ℕ). seen_entries before ++ (under_each (map f (take i xs)) number ++ (t, number) ∷ [])) same
      ∙ ap (λ (es : List (List ℕ × ℕ)). seen_entries before ++ es)
      (sym (ap (λ (ts : List (List ℕ)). under_each ts number) (mapped_more xs i x within is f)
      ∙ map-append (λ (t : List ℕ). let entry : List ℕ × ℕ = (t, number) in entry) (map f (take i xs)) (f x ∷ [])))

-- one turn of a loop that puts what is found under texts last
pub found_turn : (g : List ℕ → List ℕ) (texts : List (Bor (List ℕ))) (i : ℕ) (text : Bor (List ℕ)) → i < length texts → text ≡ get_or texts i text
    → (found after more : List ℕ) → found ≡ flat_map g (seen_texts (take i texts)) → after ≡ found ++ more → more ≡ g text.now
    → after ≡ flat_map g (seen_texts (take (i + 1) texts))
found_turn g texts i text within is found after more was put same =
    put ∙ ap (λ (ns : List ℕ). ns ++ more) was ∙ ap (λ (ns : List ℕ). flat_map g (seen_texts (take i texts)) ++ ns) (same ∙ sym (append-nil (g text.now)))
    ∙ sym (ap (flat_map g) (mapped_more texts i text within is (λ (t : Bor (List ℕ)). t.now)) ∙ flat_map-append g (seen_texts (take i texts)) (text.now ∷ []))
