-- Lists in which each element stands before all later ones, made of other such lists.
use Rattle.std.proofs.Common.{◌≡◌, ℕ, zero, suc, ◌+◌, ◌<◌, ◌≤◌, Bool, true, false, cond, List, [], ◌∷◌, ◌++◌, ◌||◌, map, refl, sym, subst, inl, inr, arith}
use Rattle.std.specs.Prelude.{filter, flat_map, nat_lt}
use Rattle.std.specs.List.{list_any, range_with_len}
use Rattle.std.proofs.lemmas.Bool.{lt-ltb}
use Rattle.run_model.specs.EngineRules.{Among}
use Rattle.run_model.proofs.DistinctLists.{at_place, from_append, from_filter, from_flat_map, from_map, from_place}
use Rattle.tree_base.specs.ByteOrder.{IsAscending}

pub or_first : (b c : Bool) → b ≡ true → (b || c) ≡ true
or_first true c e = refl
or_first false c e = absurd (cc e)

pub or_second : (b c : Bool) → c ≡ true → (b || c) ≡ true
or_second true c e = refl
or_second false c e = e

-- what passes is found
pub any_of : {X : Type 0} (p : X → Bool) (xs : List X) (x : X) → Among xs x → p x ≡ true → list_any p xs ≡ true
any_of p [] x m e = absurd m
any_of p (y ∷ ys) x (inl same) e = or_first (p y) (list_any p ys) (subst (λ z. p z ≡ true) same e)
any_of p (y ∷ ys) x (inr m) e = or_second (p y) (list_any p ys) (any_of p ys x m e)

-- which numbers stand in a range
pub from_range : (a n k : ℕ) → Among (range_with_len a n) k → (a ≤ k) × (k < a + n)
from_range a zero k m = absurd m
from_range a (suc n) k (inl e) = (omega (arith, e), omega (arith, e))
from_range a (suc n) k (inr m) = let r = from_range (a + 1) n k m in (omega (arith, r.0), omega (arith, r.1))

module _ {X : Type 0} (before : X → X → Bool) where
  -- each element stands before all later ones
  abbrev pub Up : List X → Type 0
  Up [] = Unit {0}
  Up (x ∷ xs) = ((y : X) → Among xs y → before x y ≡ true) × Up xs

  pub up_ascends : (xs : List X) → Up xs → IsAscending before xs
  up_ascends [] up i j x y l e f = absurd (cc e)
  up_ascends (z ∷ zs) up zero zero x y l e f = absurd (omega (arith, l))
  up_ascends (z ∷ zs) up zero (suc j) x y l e f = let same : z ≡ x = cc e in subst (λ (w : X). before w y ≡ true) same (up.0 y (from_place zs j y f))
  up_ascends (z ∷ zs) up (suc i) zero x y l e f = absurd (omega (arith, l))
  up_ascends (z ∷ zs) up (suc i) (suc j) x y l e f = up_ascends zs up.1 i j x y (omega (arith, l)) e f

  pub ascending_up : (xs : List X) → IsAscending before xs → Up xs
  ascending_up [] a = tt
  ascending_up (z ∷ zs) a = (
    λ y m. let r = at_place zs y m in a 0 (suc r.0) z y (omega arith) refl r.1,
    ascending_up zs (λ i j x y l e f. a (suc i) (suc j) x y (omega (arith, l)) e f),
  )

  pub up_append : (xs ys : List X) → Up xs → Up ys → ((x y : X) → Among xs x → Among ys y → before x y ≡ true) → Up (xs ++ ys)
  up_append [] ys up more across = more
  up_append (x ∷ xs) ys up more across = (
    λ y m. elim (from_append xs ys y m) [ inl n ↦ up.0 y n | inr n ↦ across x y (inl refl) n ],
    up_append xs ys up.1 more (λ z y m n. across z y (inr m) n),
  )

  pub up_filter : (p : X → Bool) (xs : List X) → Up xs → Up (filter p xs)
  up_filter p [] up = tt
  up_filter p (x ∷ xs) up = at (p x) (up_filter p xs up.1)
    where
      at : (b : Bool) → Up (filter p xs) → Up (cond b (x ∷ filter p xs) (filter p xs))
      at true rest = (λ y m. up.0 y (from_filter p xs y m).1, rest)
      at false rest = rest

module _ {X Y : Type 0} (before : X → X → Bool) (earlier : Y → Y → Bool) where
  pub up_map : (f : Y → X) (ys : List Y) → ((y z : Y) → Among ys y → Among ys z → earlier y z ≡ true → before (f y) (f z) ≡ true) → Up earlier ys → Up before (map f ys)
  up_map f [] step up = tt
  up_map f (y ∷ ys) step up = (
    λ x m. let r = from_map f ys x m in
        subst (λ (w : X). before (f y) w ≡ true) (sym r.2) (step y r.0 (inl refl) (inr r.1) (up.0 r.0 r.1)),
    up_map f ys (λ w z m n h. step w z (inr m) (inr n) h) up.1,
  )

  pub up_flat_map : (f : Y → List X) (ys : List Y) → ((y : Y) → Among ys y → Up before (f y))
      → ((y z : Y) → Among ys y → Among ys z → earlier y z ≡ true → (x w : X) → Among (f y) x → Among (f z) w → before x w ≡ true)
      → Up earlier ys → Up before (flat_map f ys)
  up_flat_map f [] each across up = tt
  up_flat_map f (y ∷ ys) each across up =
      up_append before (f y) (flat_map f ys) (each y (inl refl))
      (up_flat_map f ys (λ z m. each z (inr m)) (λ w z m n h. across w z (inr m) (inr n) h) up.1)
      (λ x w m n. let r = from_flat_map f ys w n in across y r.0 (inl refl) (inr r.1) (up.0 r.0 r.1) x w m r.2)

pub range_up : (a n : ℕ) → Up nat_lt (range_with_len a n)
range_up a zero = tt
range_up a (suc n) = (λ k m. let r = from_range (a + 1) n k m in lt-ltb a k (omega (arith, r.0)), range_up (a + 1) n)
