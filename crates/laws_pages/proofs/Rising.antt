-- Elements whose keys don't fall: what a sort by key gives, and what it leaves as it is.
use Rattle.std.proofs.Common.{◌≡◌, ◌∙◌, ◌+◌, ℕ, Bool, true, false, cond, List, [], ◌∷◌, length, refl, sym, ap, arith}
use Rattle.std.proofs.lemmas.Cmp.{nat_list_cmp_total}
use Rattle.std.specs.Prelude.{filter}
use Rattle.std.specs.Cmp.Lexicographic.{slice_cmp}
use Rattle.std.specs.Ordering.{is_lt, nat_cmp, ordering_reverse}
use Rattle.std.specs.declared.cmp.Ordering.{Ordering}
use Rattle.std.specs.declared.cmp.Ordering.TheVariants.{Less, Equal, Greater}
use Rattle.tree_base.specs.ByteOrder.{by_key, is_before, placed}

abbrev order : List ℕ → List ℕ → Ordering
order = slice_cmp nat_cmp

less : (s t : List ℕ) → is_before s t ≡ true → order s t ≡ Less
less s t = at (order s t)
  where
    at : (o : Ordering) → is_lt o ≡ true → o ≡ Less
    at Less e = refl
    at Equal e = absurd (cc e)
    at Greater e = absurd (cc e)

-- of two keys at most one stands before the other
pub not_after : (s t : List ℕ) → is_before s t ≡ true → is_before t s ≡ false
not_after s t e = ap is_lt (nat_list_cmp_total.antisymm t s ∙ ap ordering_reverse (less s t e))

pub before_through : (r s t : List ℕ) → is_before r s ≡ true → is_before s t ≡ true → is_before r t ≡ true
before_through r s t e f = ap is_lt (nat_list_cmp_total.trans r s t (less r s e) (less s t f))

-- what stands before a key stands before all that isn't before that key
pub before_later : (r s t : List ℕ) → is_before r s ≡ true → is_before t s ≡ false → is_before r t ≡ true
before_later r s t e f = at (order t s) refl
  where
    at : (o : Ordering) → order t s ≡ o → is_before r t ≡ true
    at Less g = let bad : true ≡ false = sym (ap is_lt g) ∙ f in absurd (cc bad)
    at Equal g =
        let back : order s t ≡ Equal = nat_list_cmp_total.antisymm s t ∙ ap ordering_reverse g in
        ap is_lt (nat_list_cmp_total.antisymm r t ∙ ap ordering_reverse (nat_list_cmp_total.congr t s r g ∙ nat_list_cmp_total.antisymm s r ∙ ap ordering_reverse (less r s e)))
    at Greater g = before_through r s t e (ap is_lt (nat_list_cmp_total.antisymm s t ∙ ap ordering_reverse g))

-- a key isn't before a second one that isn't before a third, if the first isn't before the second
pub still_not_before : (r s t : List ℕ) → is_before s r ≡ false → is_before t s ≡ false → is_before t r ≡ false
still_not_before r s t e f = at (is_before t r) refl
  where
    at : (b : Bool) → is_before t r ≡ b → is_before t r ≡ false
    at false g = g
    at true g =
        let bad : true ≡ false = sym (before_later t r s g e) ∙ f in absurd (cc bad)

module _ {X : Type 0} (key : X → List ℕ) where
  -- no element of a list stands before another one, by their keys
  abbrev pub NoneBefore : X → List X → Type 0
  NoneBefore x [] = Unit {0}
  NoneBefore x (y ∷ ys) = (is_before (key y) (key x) ≡ false) × NoneBefore x ys

  -- no element stands before an earlier one
  abbrev pub Rises : List X → Type 0
  Rises [] = Unit {0}
  Rises (x ∷ xs) = NoneBefore x xs × Rises xs

  -- an element before which none of a list stands is placed first
  pub placed_first : (x : X) (xs : List X) → NoneBefore x xs → placed key x xs ≡ x ∷ xs
  placed_first x [] none = refl
  placed_first x (y ∷ ys) none = ap (λ b. cond b (y ∷ placed key x ys) (x ∷ y ∷ ys)) none.0

  -- what rises is in order
  pub by_key_rising : (xs : List X) → Rises xs → by_key key xs ≡ xs
  by_key_rising [] rise = refl
  by_key_rising (x ∷ xs) rise = ap (placed key x) (by_key_rising xs rise.1) ∙ placed_first x xs rise.0

  none-placed : (z x : X) (xs : List X) → is_before (key x) (key z) ≡ false → NoneBefore z xs → NoneBefore z (placed key x xs)
  none-placed z x [] e none = (e, tt)
  none-placed z x (y ∷ ys) e none = at (is_before (key y) (key x)) (none-placed z x ys e none.1)
    where
      at : (b : Bool) → NoneBefore z (placed key x ys) → NoneBefore z (cond b (y ∷ placed key x ys) (x ∷ y ∷ ys))
      at true rest = (none.0, rest)
      at false rest = (e, none)

  none_still : (x y : X) (ys : List X) → is_before (key y) (key x) ≡ false → NoneBefore y ys → NoneBefore x ys
  none_still x y [] e none = tt
  none_still x y (z ∷ zs) e none = (still_not_before (key x) (key y) (key z) e none.0, none_still x y zs e none.1)

  pub rises-placed : (x : X) (xs : List X) → Rises xs → Rises (placed key x xs)
  rises-placed x [] rise = (tt, tt)
  rises-placed x (y ∷ ys) rise = at (is_before (key y) (key x)) refl (rises-placed x ys rise.1)
    where
      at : (b : Bool) → is_before (key y) (key x) ≡ b → Rises (placed key x ys) → Rises (cond b (y ∷ placed key x ys) (x ∷ y ∷ ys))
      at true e rest = (none-placed y x ys (not_after (key y) (key x) e) rise.0, rest)
      at false e rest = ((e, none_still x y ys e rise.0), rise)

  -- what is sorted rises
  pub rises-by_key : (xs : List X) → Rises (by_key key xs)
  rises-by_key [] = tt
  rises-by_key (x ∷ xs) = rises-placed x (by_key key xs) (rises-by_key xs)

  length-placed : (x : X) (xs : List X) → length (placed key x xs) ≡ length xs + 1
  length-placed x [] = refl
  length-placed x (y ∷ ys) = at (is_before (key y) (key x)) (length-placed x ys)
    where
      at : (b : Bool) → length (placed key x ys) ≡ length ys + 1 → length (cond b (y ∷ placed key x ys) (x ∷ y ∷ ys)) ≡ length (y ∷ ys) + 1
      at true e = omega arith
      at false e = omega arith

  pub length-by_key : (xs : List X) → length (by_key key xs) ≡ length xs
  length-by_key [] = refl
  length-by_key (x ∷ xs) = let one = length-placed x (by_key key xs) in let rest = length-by_key xs in omega arith

  -- two elements of which one stands before the other are placed one after another in either order
  pub placed-placed : (x y : X) (xs : List X) → is_before (key x) (key y) ≡ true → placed key x (placed key y xs) ≡ placed key y (placed key x xs)
  placed-placed x y [] e =
      ap (λ b. cond b (y ∷ x ∷ []) (x ∷ y ∷ [])) (not_after (key x) (key y) e) ∙ sym (ap (λ b. cond b (x ∷ y ∷ []) (y ∷ x ∷ [])) e)
  placed-placed x y (z ∷ zs) e = at (is_before (key z) (key x)) refl (is_before (key z) (key y)) refl (placed-placed x y zs e)
    where
      at : (b : Bool) → is_before (key z) (key x) ≡ b → (d : Bool) → is_before (key z) (key y) ≡ d → placed key x (placed key y zs) ≡ placed key y (placed key x zs)
          → placed key x (cond d (z ∷ placed key y zs) (y ∷ z ∷ zs)) ≡ placed key y (cond b (z ∷ placed key x zs) (x ∷ z ∷ zs))
      at true f true g rest =
          ap (λ b. cond b (z ∷ placed key x (placed key y zs)) (x ∷ z ∷ placed key y zs)) f ∙ ap (λ l. z ∷ l) rest
          ∙ sym (ap (λ b. cond b (z ∷ placed key y (placed key x zs)) (y ∷ z ∷ placed key x zs)) g)
      at true f false g rest = let bad : true ≡ false = sym (before_through (key z) (key x) (key y) f e) ∙ g in absurd (cc bad)
      at false f true g rest =
          ap (λ b. cond b (z ∷ placed key x (placed key y zs)) (x ∷ z ∷ placed key y zs)) f
          ∙ sym (ap (λ b. cond b (x ∷ placed key y (z ∷ zs)) (y ∷ x ∷ z ∷ zs)) e ∙ ap (λ b. x ∷ cond b (z ∷ placed key y zs) (y ∷ z ∷ zs)) g)
      at false f false g rest =
          ap (λ b. cond b (y ∷ placed key x (z ∷ zs)) (x ∷ y ∷ z ∷ zs)) (not_after (key x) (key y) e)
          ∙ sym (ap (λ b. cond b (x ∷ placed key y (z ∷ zs)) (y ∷ x ∷ z ∷ zs)) e ∙ ap (λ b. x ∷ cond b (z ∷ placed key y zs) (y ∷ z ∷ zs)) g)

  module _ (test : X → Bool) where
    none-filter : (x : X) (xs : List X) → NoneBefore x xs → NoneBefore x (filter test xs)
    none-filter x [] none = tt
    none-filter x (y ∷ ys) none = at (test y) (none-filter x ys none.1)
      where
        at : (b : Bool) → NoneBefore x (filter test ys) → NoneBefore x (cond b (y ∷ filter test ys) (filter test ys))
        at true rest = (none.0, rest)
        at false rest = rest

    pub rises-filter : (xs : List X) → Rises xs → Rises (filter test xs)
    rises-filter [] rise = tt
    rises-filter (x ∷ xs) rise = at (test x) (rises-filter xs rise.1)
      where
        at : (b : Bool) → Rises (filter test xs) → Rises (cond b (x ∷ filter test xs) (filter test xs))
        at true rest = (none-filter x xs rise.0, rest)
        at false rest = rest

    -- an element that passes is placed among those that pass
    pub filter-placed : (x : X) (xs : List X) → test x ≡ true → Rises xs → filter test (placed key x xs) ≡ placed key x (filter test xs)
    filter-placed x [] passes rise = ap (λ b. cond b (x ∷ []) []) passes
    filter-placed x (y ∷ ys) passes rise = at (is_before (key y) (key x)) refl (test y) refl (filter-placed x ys passes rise.1)
      where
        first : (d : Bool) → test y ≡ d → is_before (key y) (key x) ≡ false → x ∷ filter test (y ∷ ys) ≡ placed key x (filter test (y ∷ ys))
        first d f e = sym (placed_first x (filter test (y ∷ ys)) (none-filter x (y ∷ ys) (e, none_still x y ys e rise.0)))

        at : (b : Bool) → is_before (key y) (key x) ≡ b → (d : Bool) → test y ≡ d → filter test (placed key x ys) ≡ placed key x (filter test ys)
            → filter test (cond b (y ∷ placed key x ys) (x ∷ y ∷ ys)) ≡ placed key x (filter test (y ∷ ys))
        at true e true f rest =
            ap (λ d. cond d (y ∷ filter test (placed key x ys)) (filter test (placed key x ys))) f ∙ ap (λ l. y ∷ l) rest
            ∙ sym (ap (λ d. placed key x (cond d (y ∷ filter test ys) (filter test ys))) f ∙ ap (λ b. cond b (y ∷ placed key x (filter test ys)) (x ∷ y ∷ filter test ys)) e)
        at true e false f rest =
            ap (λ d. cond d (y ∷ filter test (placed key x ys)) (filter test (placed key x ys))) f ∙ rest
            ∙ sym (ap (λ d. placed key x (cond d (y ∷ filter test ys) (filter test ys))) f)
        at false e d f rest = ap (λ b. cond b (x ∷ filter test (y ∷ ys)) (filter test (y ∷ ys))) passes ∙ first d f e

    -- an element that doesn't pass may be placed anywhere
    pub filter-placed_out : (x : X) (xs : List X) → test x ≡ false → filter test (placed key x xs) ≡ filter test xs
    filter-placed_out x [] fails = ap (λ b. cond b (x ∷ []) []) fails
    filter-placed_out x (y ∷ ys) fails = at (is_before (key y) (key x)) (filter-placed_out x ys fails)
      where
        at : (b : Bool) → filter test (placed key x ys) ≡ filter test ys → filter test (cond b (y ∷ placed key x ys) (x ∷ y ∷ ys)) ≡ filter test (y ∷ ys)
        at true rest = ap (λ l. cond (test y) (y ∷ l) l) rest
        at false rest = ap (λ b. cond b (x ∷ filter test (y ∷ ys)) (filter test (y ∷ ys))) fails

    -- the sorted elements that pass are those that pass, sorted
    pub filter-by_key : (xs : List X) → filter test (by_key key xs) ≡ by_key key (filter test xs)
    filter-by_key [] = refl
    filter-by_key (x ∷ xs) = at (test x) refl (filter-by_key xs)
      where
        at : (b : Bool) → test x ≡ b → filter test (by_key key xs) ≡ by_key key (filter test xs)
            → filter test (placed key x (by_key key xs)) ≡ by_key key (cond b (x ∷ filter test xs) (filter test xs))
        at true e rest = filter-placed x (by_key key xs) e (rises-by_key xs) ∙ ap (placed key x) rest
        at false e rest = filter-placed_out x (by_key key xs) e ∙ rest
