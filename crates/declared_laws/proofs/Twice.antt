-- No name is told to stand twice exactly where all names differ.
use Rattle.std.proofs.Common.{◌≡◌, ◌∙◌, ℕ, Bool, true, false, cond, not, List, [], ◌∷◌, Some, None, refl, sym, ap, subst, inl, inr, map}
use Rattle.std.specs.Prelude.{◌↔◌}
use Rattle.std.specs.List.{AllByRecursion, IsDistinct}
use Rattle.std.specs.Ordering.{is_lt, nat_cmp, ordering_reverse}
use Rattle.std.specs.Cmp.Lexicographic.{slice_cmp}
use Rattle.std.specs.Str.{bytes_eq}
use Rattle.std.specs.declared.cmp.Ordering.{Ordering}
use Rattle.std.specs.declared.cmp.Ordering.TheVariants.{Less, Equal, Greater}
use Rattle.std.proofs.lemmas.Cmp.{nat_list_cmp_total}
use Rattle.std.proofs.lemmas.Slice.Eq.{bytes_eq-Decides}
use Rattle.declared_slots.specs.Refusing.{twice_behind, twice_in_order, twice_named}
use Rattle.run_model.specs.EngineRules.{Among}
use Rattle.run_model.proofs.DistinctLists.{Distinct, among_by_key, among_placed, distinct_by_key, from_placed}
use Rattle.tree_base.proofs.Sorting.{same_place}
use Rattle.tree_base.specs.ByteOrder.{by_key, is_before, placed}
use Rattle.declared_laws.proofs.Ascending.{Up}
use Rattle.declared_laws.proofs.Firsts.{differ, not_same, other_text, up_distinct}

abbrev put : List ℕ → List (List ℕ) → List (List ℕ)
put = placed (λ t. t)

abbrev sorted : List (List ℕ) → List (List ℕ)
sorted = by_key (λ t. t)

less : (s t : List ℕ) → is_before s t ≡ true → slice_cmp nat_cmp s t ≡ Less
less s t = at (slice_cmp nat_cmp s t)
  where
    at : (o : Ordering) → is_lt o ≡ true → o ≡ Less
    at Less e = refl
    at Equal e = absurd (cc e)
    at Greater e = absurd (cc e)

not_after : (x y : List ℕ) → is_before x y ≡ true → is_before y x ≡ false
not_after x y e = ap is_lt (nat_list_cmp_total.antisymm y x) ∙ ap (λ o. is_lt (ordering_reverse o)) (less x y e)

-- what isn't before one text isn't before one that stands before it
behind_both : (x y z : List ℕ) → is_before y x ≡ false → is_before z y ≡ false → is_before z x ≡ false
behind_both x y z e f = at (is_before z x) refl (is_before y z) refl
  where
    at : (b : Bool) → is_before z x ≡ b → (c : Bool) → is_before y z ≡ c → is_before z x ≡ false
    at false g c h = g
    at true g true h =
        let bad : true ≡ false = sym (ap is_lt (nat_list_cmp_total.trans y z x (less y z h) (less z x g))) ∙ e in absurd (cc bad)
    at true g false h =
        let same : z ≡ y = same_place z y f h in
        let bad : true ≡ false = sym g ∙ ap (λ t. is_before t x) same ∙ e in
        absurd (cc bad)

-- no text stands before an earlier one
abbrev Weak : List (List ℕ) → Type 0
Weak [] = Unit {0}
Weak (x ∷ xs) = ((y : List ℕ) → Among xs y → is_before y x ≡ false) × Weak xs

weak_put : (x : List ℕ) (ys : List (List ℕ)) → Weak ys → Weak (put x ys)
weak_put x [] w = (λ y m. absurd m, tt)
weak_put x (y ∷ ys) w = at (is_before y x) refl (weak_put x ys w.1)
  where
    later : is_before y x ≡ true → (z : List ℕ) → Among (x ∷ ys) z → is_before z y ≡ false
    later e z (inl same) = subst (λ t. is_before t y ≡ false) (sym same) (not_after y x e)
    later e z (inr m) = w.0 z m

    behind : is_before y x ≡ false → (z : List ℕ) → Among (y ∷ ys) z → is_before z x ≡ false
    behind e z (inl same) = subst (λ t. is_before t x ≡ false) (sym same) e
    behind e z (inr m) = behind_both x y z e (w.0 z m)

    at : (b : Bool) → is_before y x ≡ b → Weak (put x ys) → Weak (cond b (y ∷ put x ys) (x ∷ y ∷ ys))
    at true e rest = (λ z m. later e z (from_placed (λ t. t) x ys z m), rest)
    at false e rest = (behind e, w)

weak_sorted : (xs : List (List ℕ)) → Weak (sorted xs)
weak_sorted [] = tt
weak_sorted (x ∷ xs) = weak_put x (sorted xs) (weak_sorted xs)

-- texts in order of which none stands twice all differ
none_behind : (x : List ℕ) (xs : List (List ℕ)) → Weak (x ∷ xs) → twice_behind x xs ≡ None → Distinct (x ∷ xs)
none_behind x [] w e = (λ m. m, tt)
none_behind x (y ∷ ys) w e = at (bytes_eq x y) refl e (none_behind y ys w.1)
  where
    later : bytes_eq x y ≡ false → Among (y ∷ ys) x → ⊥
    later other (inl same) = not_same x y other same
    later other (inr m) = not_same x y other (same_place x y (w.1.0 x m) (w.0 y (inl refl)))

    at : (b : Bool) → bytes_eq x y ≡ b → cond b (Some x) (twice_behind y ys) ≡ None → (twice_behind y ys ≡ None → Distinct (y ∷ ys)) → Distinct (x ∷ y ∷ ys)
    at true h f rest = absurd (cc f)
    at false h f rest = (later h, rest f)

none_in_order : (xs : List (List ℕ)) → Weak xs → twice_in_order xs ≡ None → Distinct xs
none_in_order [] w e = tt
none_in_order (x ∷ xs) w e = none_behind x xs w e

-- texts differ that differ once they are sorted
taken_out : (x : List ℕ) (ys : List (List ℕ)) → Distinct (put x ys) → Distinct (x ∷ ys)
taken_out x [] d = d
taken_out x (y ∷ ys) d = at (is_before y x) d (taken_out x ys)
  where
    others : (Among (put x ys) y → ⊥) → (Among ys x → ⊥) → Among (y ∷ ys) x → ⊥
    others apart none (inl e) = apart (among_placed (λ t. t) x ys y (inl (sym e)))
    others apart none (inr m) = none m

    at : (b : Bool) → Distinct (cond b (y ∷ put x ys) (x ∷ y ∷ ys)) → (Distinct (put x ys) → Distinct (x ∷ ys)) → Distinct (x ∷ y ∷ ys)
    at true d rest = let r = rest d.1 in (others d.0 r.0, (λ m. d.0 (among_placed (λ t. t) x ys y (inr m)), r.1))
    at false d rest = d

unsorted : (xs : List (List ℕ)) → Distinct (sorted xs) → Distinct xs
unsorted [] d = tt
unsorted (x ∷ xs) d = let r = taken_out x (sorted xs) d in (λ m. r.0 (among_by_key (λ t. t) xs x m), unsorted xs r.1)

distinct_up : (xs : List (List ℕ)) → Distinct xs → Up (differ (λ t. t)) xs
distinct_up [] d = tt
distinct_up (x ∷ xs) d = (λ y m. ap not (other_text x y (λ e. d.0 (subst (λ t. Among xs t) (sym e) m))), distinct_up xs d.1)

up_distinct_texts : (xs : List (List ℕ)) → Up (differ (λ t. t)) xs → Distinct xs
up_distinct_texts [] up = tt
up_distinct_texts (x ∷ xs) up = (λ m. let bad : true ≡ false = sym (up.0 x m) ∙ ap not ((bytes_eq-Decides x x).1 refl) in cc bad, up_distinct_texts xs up.1)

pub none_twice : (xs : List (List ℕ)) → twice_named xs ≡ None → Up (differ (λ t. t)) xs
none_twice xs e = distinct_up xs (unsorted xs (none_in_order (sorted xs) (weak_sorted xs) e))

-- and of texts that differ none stands twice
none_of_behind : (x : List ℕ) (xs : List (List ℕ)) → Distinct (x ∷ xs) → twice_behind x xs ≡ None
none_of_behind x [] d = refl
none_of_behind x (y ∷ ys) d = ap (λ b. cond b (Some x) (twice_behind y ys)) (other_text x y (λ e. d.0 (inl e))) ∙ none_of_behind y ys d.1

none_of_order : (xs : List (List ℕ)) → Distinct xs → twice_in_order xs ≡ None
none_of_order [] d = refl
none_of_order (x ∷ xs) d = none_of_behind x xs d

pub all_differ_once : (xs : List (List ℕ)) → Up (differ (λ t. t)) xs → twice_named xs ≡ None
all_differ_once xs up = none_of_order (sorted xs) (distinct_by_key (λ t. t) xs (up_distinct_texts xs up))

-- texts that differ are distinct lists, and the other way round
apart_from : (x : List ℕ) (xs : List (List ℕ)) → AllByRecursion (λ y. bytes_eq x y ≡ false) xs → Among xs x → ⊥
apart_from x [] all m = m
apart_from x (y ∷ ys) all (inl e) = not_same x y all.0 e
apart_from x (y ∷ ys) all (inr m) = apart_from x ys all.1 m

from_distinct : (xs : List (List ℕ)) → IsDistinct bytes_eq xs → Distinct xs
unfolding IsDistinct
from_distinct [] d = tt
from_distinct (x ∷ xs) d = (apart_from x xs d.0, from_distinct xs d.1)

map_same : (xs : List (List ℕ)) → map (λ t. t) xs ≡ xs
map_same [] = refl
map_same (x ∷ xs) = ap (λ l. x ∷ l) (map_same xs)

pub up_is_distinct : (xs : List (List ℕ)) → Up (differ (λ t. t)) xs → IsDistinct bytes_eq xs
up_is_distinct xs up = subst (λ (l : List (List ℕ)). IsDistinct bytes_eq l) (map_same xs) (up_distinct (λ t. t) xs up)

pub told_of_twins : (names : List (List ℕ)) → (twice_named names ≡ None) ↔ IsDistinct bytes_eq names
told_of_twins names = (λ e. up_is_distinct names (none_twice names e), λ d. none_of_order (sorted names) (distinct_by_key (λ t. t) names (from_distinct names d)))
