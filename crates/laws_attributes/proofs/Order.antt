-- What stands in byte order of its keys, maybe with a key twice: it is itself in byte order, and what is sorted is such.
use Rattle.std.proofs.Common.{◌≡◌, ◌∙◌, ℕ, Bool, true, false, cond, List, [], ◌∷◌, refl, ap, sym}
use Rattle.std.proofs.lemmas.Cmp.{nat_list_cmp_total}
use Rattle.std.specs.Cmp.Lexicographic.{slice_cmp}
use Rattle.std.specs.Ordering.{is_lt, nat_cmp, ordering_reverse}
use Rattle.std.specs.declared.cmp.Ordering.{Ordering}
use Rattle.std.specs.declared.cmp.Ordering.TheVariants.{Less, Equal, Greater}
use Rattle.tree_base.specs.ByteOrder.{by_key, is_before, placed}
use Rattle.attribute_paths.proofs.Trees.{OfAll}

abbrev order : List ℕ → List ℕ → Ordering
order = slice_cmp nat_cmp

-- what is before another isn't after it
pub not_after : (x y : List ℕ) → is_before x y ≡ true → is_before y x ≡ false
not_after x y e = ap is_lt (nat_list_cmp_total.antisymm y x) ∙ at (order x y) e
  where
    at : (o : Ordering) → is_lt o ≡ true → is_lt (ordering_reverse o) ≡ false
    at Less f = refl
    at Equal f = refl
    at Greater f = absurd (cc f)

-- what isn't before one that isn't before a third isn't before that
pub not_before : (x y z : List ℕ) → is_before z y ≡ false → is_before y x ≡ false → is_before z x ≡ false
not_before x y z e f = by (is_before z x) refl
  where
    less : (o : Ordering) → is_lt o ≡ true → o ≡ Less
    less Less g = refl
    less Equal g = absurd (cc g)
    less Greater g = absurd (cc g)

    at : (o : Ordering) → order y z ≡ o → is_before z x ≡ true → is_before y x ≡ true
    at Less g h = ap is_lt (nat_list_cmp_total.trans y z x g (less (order z x) h))
    at Equal g h = ap is_lt (nat_list_cmp_total.congr y z x g) ∙ h
    at Greater g h = let bad : true ≡ false = sym (ap is_lt (nat_list_cmp_total.antisymm z y ∙ ap ordering_reverse g)) ∙ e in absurd (cc bad)

    by : (b : Bool) → is_before z x ≡ b → is_before z x ≡ false
    by true g = let bad : true ≡ false = sym (at (order y z) refl g) ∙ f in absurd (cc bad)
    by false g = g

-- what holds of each holds of each as long as it follows
pub all_weaker : {X : Type 0} (P Q : X → Type 0) → ((x : X) → P x → Q x) → (xs : List X) → OfAll P xs → OfAll Q xs
all_weaker P Q each [] h = tt
all_weaker P Q each (x ∷ xs) h = (each x h.0, all_weaker P Q each xs h.1)

module _ {X : Type 0} (key : X → List ℕ) where
  -- no later element is before an earlier one
  abbrev pub InOrder : List X → Type 0
  InOrder [] = Unit {0}
  InOrder (x ∷ xs) = OfAll (λ y. is_before (key y) (key x) ≡ false) xs × InOrder xs

  first_placed : (x : X) (xs : List X) → OfAll (λ y. is_before (key y) (key x) ≡ false) xs → placed key x xs ≡ x ∷ xs
  first_placed x [] h = refl
  first_placed x (y ∷ ys) h = ap (λ b. cond b (y ∷ placed key x ys) (x ∷ y ∷ ys)) h.0

  -- what is in order stays
  pub order_stays : (xs : List X) → InOrder xs → by_key key xs ≡ xs
  order_stays [] h = refl
  order_stays (x ∷ xs) h = ap (placed key x) (order_stays xs h.1) ∙ first_placed x xs h.0

  -- what holds of each holds of each when one more is placed
  pub all_placed : (P : X → Type 0) (x : X) (xs : List X) → P x → OfAll P xs → OfAll P (placed key x xs)
  all_placed P x [] p h = (p, tt)
  all_placed P x (y ∷ ys) p h = at (is_before (key y) (key x)) (all_placed P x ys p h.1)
    where
      at : (b : Bool) → OfAll P (placed key x ys) → OfAll P (cond b (y ∷ placed key x ys) (x ∷ y ∷ ys))
      at true rest = (h.0, rest)
      at false rest = (p, h)

  pub all_sorted : (P : X → Type 0) (xs : List X) → OfAll P xs → OfAll P (by_key key xs)
  all_sorted P [] h = tt
  all_sorted P (x ∷ xs) h = all_placed P x (by_key key xs) h.0 (all_sorted P xs h.1)

  pub placed_in_order : (x : X) (xs : List X) → InOrder xs → InOrder (placed key x xs)
  placed_in_order x [] h = (tt, tt)
  placed_in_order x (y ∷ ys) h = at (is_before (key y) (key x)) refl (placed_in_order x ys h.1)
    where
      at : (b : Bool) → is_before (key y) (key x) ≡ b → InOrder (placed key x ys) → InOrder (cond b (y ∷ placed key x ys) (x ∷ y ∷ ys))
      at true e rest = (all_placed (λ z. is_before (key z) (key y) ≡ false) x ys (not_after (key y) (key x) e) h.0, rest)
      at false e rest =
          ((e, all_weaker (λ z. is_before (key z) (key y) ≡ false) (λ z. is_before (key z) (key x) ≡ false) (λ z f. not_before (key x) (key y) (key z) f e) ys h.0), h)

  -- what is sorted is in order
  pub sorted_in_order : (xs : List X) → InOrder (by_key key xs)
  sorted_in_order [] = tt
  sorted_in_order (x ∷ xs) = placed_in_order x (by_key key xs) (sorted_in_order xs)
