-- Elements of lists, and lists without repetition.
use Rattle.std.proofs.Common.{◌≡◌, ◌⊎◌, ℕ, zero, suc, ◌+◌, ◌<◌, ◌≤◌, Bool, true, false, cond, List, [], ◌∷◌, ◌++◌, map, length, Some, slice_get, refl, sym, ap, ◌∙◌, subst, inl, inr, arith, ◌==◌}
use Rattle.std.proofs.lemmas.Bool.{eqb-true, eqb-false}
use Rattle.std.proofs.lemmas.Option.{slice_get_within}
use Rattle.std.specs.Prelude.{filter, flat_map, if◌then◌else◌}
use Rattle.run_model.specs.EngineRules.{Among}
use Rattle.tree_base.specs.ByteOrder.{by_key, is_before, placed}
use Rattle.run_model.specs.Numbers.{numbers_from, places}

-- no element stands in the list twice
abbrev pub Distinct : {X : Type 0} → List X → Type 0
Distinct [] = Unit {0}
Distinct (x ∷ xs) = (Among xs x → ⊥) × Distinct xs

module _ {X : Type 0} where
  pub among_left : (xs ys : List X) (x : X) → Among xs x → Among (xs ++ ys) x
  among_left [] ys x m = absurd m
  among_left (y ∷ xs) ys x (inl e) = inl e
  among_left (y ∷ xs) ys x (inr m) = inr (among_left xs ys x m)

  pub among_right : (xs ys : List X) (x : X) → Among ys x → Among (xs ++ ys) x
  among_right [] ys x m = m
  among_right (y ∷ xs) ys x m = inr (among_right xs ys x m)

  pub from_append : (xs ys : List X) (x : X) → Among (xs ++ ys) x → Among xs x ⊎ Among ys x
  from_append [] ys x m = inr m
  from_append (y ∷ xs) ys x (inl e) = inl (inl e)
  from_append (y ∷ xs) ys x (inr m) = at (from_append xs ys x m)
    where
      at : Among xs x ⊎ Among ys x → Among (y ∷ xs) x ⊎ Among ys x
      at (inl n) = inl (inr n)
      at (inr n) = inr n

  pub among_filter : (p : X → Bool) (xs : List X) (x : X) → p x ≡ true → Among xs x → Among (filter p xs) x
  among_filter p [] x e m = absurd m
  among_filter p (y ∷ ys) x e m = at (p y) refl (among_filter p ys x e) m
    where
      at : (t : Bool) → p y ≡ t → (Among ys x → Among (filter p ys) x) → Among (y ∷ ys) x → Among (cond t (y ∷ filter p ys) (filter p ys)) x
      at true h rest (inl n) = inl n
      at true h rest (inr n) = inr (rest n)
      at false h rest (inl n) = let bad : false ≡ true = sym h ∙ subst (λ (z : X). p z ≡ true) n e in absurd (cc bad)
      at false h rest (inr n) = rest n

  pub from_filter : (p : X → Bool) (xs : List X) (x : X) → Among (filter p xs) x → (p x ≡ true) × Among xs x
  from_filter p [] x m = absurd m
  from_filter p (y ∷ ys) x m = at (p y) refl (from_filter p ys x) m
    where
      at : (t : Bool) → p y ≡ t → (Among (filter p ys) x → (p x ≡ true) × Among ys x) → Among (cond t (y ∷ filter p ys) (filter p ys)) x
          → (p x ≡ true) × Among (y ∷ ys) x
      at true h rest (inl n) = (subst (λ (z : X). p z ≡ true) (sym n) h, inl n)
      at true h rest (inr n) = let r = rest n in (r.0, inr r.1)
      at false h rest n = let r = rest n in (r.0, inr r.1)

  pub at_place : (xs : List X) (x : X) → Among xs x → (i : ℕ) × (slice_get xs i ≡ Some x)
  at_place [] x m = absurd m
  at_place (y ∷ ys) x (inl e) = (0, ap Some (sym e))
  at_place (y ∷ ys) x (inr m) = let r = at_place ys x m in (suc r.0, r.1)

  pub from_place : (xs : List X) (i : ℕ) (x : X) → slice_get xs i ≡ Some x → Among xs x
  from_place [] i x e = absurd (cc e)
  from_place (y ∷ ys) zero x e = let same : y ≡ x = cc e in inl (sym same)
  from_place (y ∷ ys) (suc i) x e = inr (from_place ys i x e)

  pub same_place : (xs : List X) (i j : ℕ) (x : X) → Distinct xs → slice_get xs i ≡ Some x → slice_get xs j ≡ Some x → i ≡ j
  same_place [] i j x d e f = absurd (cc e)
  same_place (y ∷ ys) zero zero x d e f = refl
  same_place (y ∷ ys) zero (suc j) x d e f =
      let same : y ≡ x = cc e in absurd (d.0 (subst (λ (z : X). Among ys z) (sym same) (from_place ys j x f)))
  same_place (y ∷ ys) (suc i) zero x d e f =
      let same : y ≡ x = cc f in absurd (d.0 (subst (λ (z : X). Among ys z) (sym same) (from_place ys i x e)))
  same_place (y ∷ ys) (suc i) (suc j) x d e f = ap suc (same_place ys i j x d.1 e f)

  pub distinct_append : (xs ys : List X) → Distinct xs → Distinct ys → ((x : X) → Among xs x → Among ys x → ⊥) → Distinct (xs ++ ys)
  distinct_append [] ys d e apart = e
  distinct_append (x ∷ xs) ys d e apart = (λ m. at (from_append xs ys x m), distinct_append xs ys d.1 e (λ z m n. apart z (inr m) n))
    where
      at : Among xs x ⊎ Among ys x → ⊥
      at (inl m) = d.0 m
      at (inr m) = apart x (inl refl) m

  pub distinct_filter : (p : X → Bool) (xs : List X) → Distinct xs → Distinct (filter p xs)
  distinct_filter p [] d = tt
  distinct_filter p (x ∷ xs) d = at (p x) (distinct_filter p xs d.1)
    where
      at : (t : Bool) → Distinct (filter p xs) → Distinct (cond t (x ∷ filter p xs) (filter p xs))
      at true e = (λ m. d.0 (from_filter p xs x m).1, e)
      at false e = e

  -- what stands in a list of which one element was put at its place
  pub among_placed : (key : X → List ℕ) (x : X) (ys : List X) (z : X) → Among (x ∷ ys) z → Among (placed key x ys) z
  among_placed key x [] z m = m
  among_placed key x (y ∷ ys) z m = at (is_before (key y) (key x)) (among_placed key x ys z) m
    where
      at : (t : Bool) → (Among (x ∷ ys) z → Among (placed key x ys) z) → Among (x ∷ y ∷ ys) z → Among (if t then y ∷ placed key x ys else x ∷ y ∷ ys) z
      at true rest (inl e) = inr (rest (inl e))
      at true rest (inr (inl e)) = inl e
      at true rest (inr (inr n)) = inr (rest (inr n))
      at false rest n = n

  pub from_placed : (key : X → List ℕ) (x : X) (ys : List X) (z : X) → Among (placed key x ys) z → Among (x ∷ ys) z
  from_placed key x [] z m = m
  from_placed key x (y ∷ ys) z m = at (is_before (key y) (key x)) (from_placed key x ys z) m
    where
      swapped : Among (x ∷ ys) z → Among (x ∷ y ∷ ys) z
      swapped (inl e) = inl e
      swapped (inr n) = inr (inr n)

      at : (t : Bool) → (Among (placed key x ys) z → Among (x ∷ ys) z) → Among (if t then y ∷ placed key x ys else x ∷ y ∷ ys) z → Among (x ∷ y ∷ ys) z
      at true rest (inl e) = inr (inl e)
      at true rest (inr n) = swapped (rest n)
      at false rest n = n

  pub distinct_placed : (key : X → List ℕ) (x : X) (ys : List X) → Distinct (x ∷ ys) → Distinct (placed key x ys)
  distinct_placed key x [] d = d
  distinct_placed key x (y ∷ ys) d = at (is_before (key y) (key x)) (distinct_placed key x ys (λ m. d.0 (inr m), d.1.1))
    where
      apart : Among (x ∷ ys) y → ⊥
      apart (inl e) = d.0 (inl (sym e))
      apart (inr m) = d.1.0 m

      at : (t : Bool) → Distinct (placed key x ys) → Distinct (if t then y ∷ placed key x ys else x ∷ y ∷ ys)
      at true e = (λ m. apart (from_placed key x ys y m), e)
      at false e = d

  -- the elements in byte order of their keys are the same ones
  pub among_by_key : (key : X → List ℕ) (xs : List X) (z : X) → Among xs z → Among (by_key key xs) z
  among_by_key key [] z m = m
  among_by_key key (x ∷ xs) z (inl e) = among_placed key x (by_key key xs) z (inl e)
  among_by_key key (x ∷ xs) z (inr m) = among_placed key x (by_key key xs) z (inr (among_by_key key xs z m))

  pub from_by_key : (key : X → List ℕ) (xs : List X) (z : X) → Among (by_key key xs) z → Among xs z
  from_by_key key [] z m = m
  from_by_key key (x ∷ xs) z m = at (from_by_key key xs z) (from_placed key x (by_key key xs) z m)
    where
      at : (Among (by_key key xs) z → Among xs z) → Among (x ∷ by_key key xs) z → Among (x ∷ xs) z
      at rest (inl e) = inl e
      at rest (inr n) = inr (rest n)

  pub distinct_by_key : (key : X → List ℕ) (xs : List X) → Distinct xs → Distinct (by_key key xs)
  distinct_by_key key [] d = tt
  distinct_by_key key (x ∷ xs) d = distinct_placed key x (by_key key xs) (λ m. d.0 (from_by_key key xs x m), distinct_by_key key xs d.1)

module _ {X Y : Type 0} where
  pub among_map : (f : X → Y) (xs : List X) (x : X) → Among xs x → Among (map f xs) (f x)
  among_map f [] x m = absurd m
  among_map f (y ∷ ys) x (inl e) = inl (ap f e)
  among_map f (y ∷ ys) x (inr m) = inr (among_map f ys x m)

  pub from_map : (f : X → Y) (xs : List X) (y : Y) → Among (map f xs) y → (x : X) × Among xs x × (y ≡ f x)
  from_map f [] y m = absurd m
  from_map f (x ∷ xs) y (inl e) = (x, inl refl, e)
  from_map f (x ∷ xs) y (inr m) = let r = from_map f xs y m in (r.0, inr r.1, r.2)

  pub distinct_map : (f : X → Y) (xs : List X) → ((x y : X) → f x ≡ f y → x ≡ y) → Distinct xs → Distinct (map f xs)
  distinct_map f [] one d = tt
  distinct_map f (x ∷ xs) one d =
      (λ m. let r = from_map f xs (f x) m in d.0 (subst (λ (z : X). Among xs z) (sym (one x r.0 r.2)) r.1), distinct_map f xs one d.1)

  pub among_flat_map : (f : X → List Y) (xs : List X) (x : X) (y : Y) → Among xs x → Among (f x) y → Among (flat_map f xs) y
  among_flat_map f [] x y m n = absurd m
  among_flat_map f (z ∷ zs) x y (inl e) n = among_left (f z) (flat_map f zs) y (subst (λ (w : X). Among (f w) y) e n)
  among_flat_map f (z ∷ zs) x y (inr m) n = among_right (f z) (flat_map f zs) y (among_flat_map f zs x y m n)

  pub from_flat_map : (f : X → List Y) (xs : List X) (y : Y) → Among (flat_map f xs) y → (x : X) × Among xs x × Among (f x) y
  from_flat_map f [] y m = absurd m
  from_flat_map f (x ∷ xs) y m = at (from_append (f x) (flat_map f xs) y m) (from_flat_map f xs y)
    where
      at : Among (f x) y ⊎ Among (flat_map f xs) y → (Among (flat_map f xs) y → (z : X) × Among xs z × Among (f z) y) → (z : X) × Among (x ∷ xs) z × Among (f z) y
      at (inl n) rest = (x, inl refl, n)
      at (inr n) rest = let r = rest n in (r.0, inr r.1, r.2)

  pub distinct_flat_map : (f : X → List Y) (xs : List X) → ((x : X) → Distinct (f x)) → ((x z : X) (y : Y) → Among (f x) y → Among (f z) y → x ≡ z)
      → Distinct xs → Distinct (flat_map f xs)
  distinct_flat_map f [] each apart d = tt
  distinct_flat_map f (x ∷ xs) each apart d =
      distinct_append (f x) (flat_map f xs) (each x) (distinct_flat_map f xs each apart d.1)
      (λ y m n. let r = from_flat_map f xs y n in d.0 (subst (λ (z : X). Among xs z) (sym (apart x r.0 y m r.2)) r.1))

pub among_numbers : (i n k : ℕ) → i ≤ k → k < i + n → Among (numbers_from i n) k
among_numbers i zero k h b = absurd (omega (arith, h, b))
among_numbers i (suc n) k h b = at (i == k) refl (among_numbers (i + 1) n k)
  where
    at : (t : Bool) → (i == k) ≡ t → (i + 1 ≤ k → k < i + 1 + n → Among (numbers_from (i + 1) n) k) → Among (i ∷ numbers_from (i + 1) n) k
    at true e rest = inl (sym (eqb-true i k e))
    at false e rest = let apart = eqb-false i k e in inr (rest (omega (arith, h, apart)) (omega (arith, b)))

pub from_numbers : (i n k : ℕ) → Among (numbers_from i n) k → (i ≤ k) × (k < i + n)
from_numbers i zero k m = absurd m
from_numbers i (suc n) k (inl e) = (omega (arith, e), omega (arith, e))
from_numbers i (suc n) k (inr m) = let r = from_numbers (i + 1) n k m in (omega (arith, r.0), omega (arith, r.1))

pub distinct_numbers : (i n : ℕ) → Distinct (numbers_from i n)
distinct_numbers i zero = tt
distinct_numbers i (suc n) = (λ m. let r = from_numbers (i + 1) n i m in omega (arith, r.0), distinct_numbers (i + 1) n)

module _ {X : Type 0} where
  pub among_places : (xs : List X) (i : ℕ) (x : X) → slice_get xs i ≡ Some x → Among (places xs) i
  among_places xs i x e = among_numbers 0 (length xs) i (omega arith) (let h = slice_get_within xs i x e in omega (arith, h))

  pub distinct_places : (xs : List X) → Distinct (places xs)
  distinct_places xs = distinct_numbers 0 (length xs)
