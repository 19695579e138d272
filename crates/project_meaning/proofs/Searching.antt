-- Names in byte order: what a search by halves finds, and what stands among them.
use Rattle.std.proofs.Common.{◌≡◌, ◌<◌, ◌≤◌, ◌+◌, ℕ, zero, suc, Bool, true, false, cond, List, [], ◌∷◌, ◌++◌, Ok, Err, length, refl, ap, sym, ◌∙◌, ⊎_elim, arith, map}
use Rattle.std.specs.Prelude.{Result, ◌||◌, flat_map}
use Rattle.std.specs.Cmp.Lexicographic.{slice_cmp}
use Rattle.std.specs.List.{list_any}
use Rattle.std.specs.List.Sorted.{IsBinarySearchResult, IsNonDecreasingBy, IsSearchInRange}
use Rattle.std.specs.Ordering.{is_eq, is_lt, nat_cmp, ordering_index, ordering_reverse}
use Rattle.std.specs.Result.{is_ok}
use Rattle.std.specs.Str.{bytes_eq}
use Rattle.std.specs.declared.cmp.Ordering.{Ordering}
use Rattle.std.specs.declared.cmp.Ordering.TheVariants.{Less, Equal, Greater}
use Rattle.std.proofs.lemmas.Cmp.{nat_list_cmp_total, nat_list_eq_equiv}
use Rattle.std.proofs.lemmas.List.Folds.{list_any-append, list_any_at, list_any_none}
use Rattle.std.proofs.lemmas.List.Sorted.{IsNonDecreasingBy-from_all_adjacent}
use Rattle.std.proofs.lemmas.Map.Text.{is_eq-slice_cmp}
use Rattle.std.proofs.lemmas.Bool.{cases_lt}
use Rattle.tree_base.specs.ByteOrder.{by_key, is_before, placed}
use Rattle.attribute_scalars.specs.Walks.{is_in}
use Rattle.project_meaning.specs.Names.{AreInOrder, sorted}

abbrev order : List ℕ → List ℕ → Ordering
order = slice_cmp nat_cmp

-- a name is another one exactly where they compare so, whichever comes first
compared : (name other : List ℕ) → bytes_eq name other ≡ is_eq (order other name)
compared name other = nat_list_eq_equiv.symm name other ∙ sym (is_eq-slice_cmp other name)

at_most_two : (o : Ordering) → ordering_index o ≤ 2
at_most_two Less = omega arith
at_most_two Equal = omega arith
at_most_two Greater = omega arith

-- of two names in order the first doesn't compare higher
rises : (a b name : List ℕ) → is_lt (order b a) ≡ false → ordering_index (order a name) ≤ ordering_index (order b name)
rises a b name e = at (order b a) refl e (order b name) refl
  where
    at : (o : Ordering) → order b a ≡ o → is_lt o ≡ false → (p : Ordering) → order b name ≡ p → ordering_index (order a name) ≤ ordering_index (order b name)
    at Less f g p h = absurd (cc g)
    at Equal f g p h = let same : ordering_index (order b name) ≡ ordering_index (order a name) = ap ordering_index (nat_list_cmp_total.congr b a name f) in omega (arith, same)
    at Greater f g Less h =
        let before : order a b ≡ Less = nat_list_cmp_total.antisymm a b ∙ ap ordering_reverse f in
        let low : ordering_index (order a name) ≡ 0 = ap ordering_index (nat_list_cmp_total.trans a b name before h) in omega (arith, low)
    at Greater f g Equal h =
        let before : order a name ≡ Less = nat_list_cmp_total.antisymm a name ∙ ap ordering_reverse (sym (nat_list_cmp_total.congr b name a h) ∙ f) in
        let low : ordering_index (order a name) ≡ 0 = ap ordering_index before in omega (arith, low)
    at Greater f g Greater h = let high : ordering_index (order b name) ≡ 2 = ap ordering_index h in omega (arith, high, at_most_two (order a name))

-- what a search by halves finds among names in order is whether a name is there
pub searched : (names : List (List ℕ)) (name : List ℕ) (r : Result ℕ ℕ) → AreInOrder names → IsBinarySearchResult (λ y. order y name) names r → IsSearchInRange r (length names)
    → is_ok r ≡ is_in names name
searched names name (Ok i) up h within =
    sym (list_any_at (bytes_eq name) names i [] within (compared name _ ∙ ap is_eq (h [])))
searched names name (Err i) up h within =
    let parted = h (IsNonDecreasingBy-from_all_adjacent (λ y. ordering_index (order y name)) names (λ k d l. rises _ _ name (up k d (omega arith) l))) in
    sym (list_any_none (bytes_eq name) names (λ k d l. compared name _
    ∙ ⊎_elim (λ below. ap is_eq (parted.0 k d (omega arith) below)) (λ above. ap is_eq (parted.1 k d above l)) (cases_lt k i)))

-- one more name at its place
any_placed : (p : List ℕ → Bool) (name : List ℕ) (names : List (List ℕ)) → list_any p (placed (λ name. name) name names) ≡ (p name || list_any p names)
any_placed p name [] = refl
any_placed p name (other ∷ names) = at (is_before other name) (any_placed p name names)
  where
    swapped : (a b c : Bool) → (a || (b || c)) ≡ (b || (a || c))
    swapped true true c = refl
    swapped true false c = refl
    swapped false true c = refl
    swapped false false c = refl

    at : (b : Bool) → list_any p (placed (λ name. name) name names) ≡ (p name || list_any p names)
        → list_any p (cond b (other ∷ placed (λ name. name) name names) (name ∷ other ∷ names)) ≡ (p name || (p other || list_any p names))
    at true so = ap (λ b. p other || b) so ∙ swapped (p other) (p name) (list_any p names)
    at false so = refl

-- names in byte order are those that they were
any_sorted : (p : List ℕ → Bool) (names : List (List ℕ)) → list_any p (sorted names) ≡ list_any p names
any_sorted p [] = refl
any_sorted p (name ∷ names) = any_placed p name (sorted names) ∙ ap (λ b. p name || b) (any_sorted p names)

pub in_sorted : (names : List (List ℕ)) (name : List ℕ) → is_in (sorted names) name ≡ is_in names name
in_sorted names name = any_sorted (bytes_eq name) names

-- a name is among all names exactly where it is among those of one
pub in_each : {X : Type 0} (names : X → List (List ℕ)) (xs : List X) (name : List ℕ) → is_in (flat_map names xs) name ≡ list_any (λ x. is_in (names x) name) xs
in_each names [] name = refl
in_each names (x ∷ xs) name = list_any-append (bytes_eq name) (names x) (flat_map names xs) ∙ ap (λ b. is_in (names x) name || b) (in_each names xs name)

-- a test of what is made of elements
pub any_mapped : {X : Type 0} (p : List ℕ → Bool) (f : X → List ℕ) (xs : List X) → list_any p (map f xs) ≡ list_any (λ x. p (f x)) xs
any_mapped p f [] = refl
any_mapped p f (x ∷ xs) = ap (λ b. p (f x) || b) (any_mapped p f xs)
