-- Tests of lists, and what is found in them.
use Rattle.std.proofs.Common.{◌≡◌, ℕ, zero, suc, ◌+◌, ◌<◌, ◌≤◌, Bool, true, false, cond, List, [], ◌∷◌, ◌++◌, Some, None, length, map, get_or, set, take, replicate, refl, ap, sym, ◌∙◌, arith, inl, inr}
use Rattle.std.specs.Prelude.{◌||◌, ◌⊎◌, Option, filter_map, find, flat_map}
use Rattle.std.proofs.lemmas.List.{take_more}
use Rattle.std.proofs.lemmas.List.Elements.{filter_map-append}
use Rattle.std.specs.List.{cons_option, last_or, list_any, range_with_len}
use Rattle.std.specs.Option.{option_or}
use Rattle.std.proofs.lemmas.List.Folds.{list_any-append}
use Rattle.service_graph.specs.Cycles.{first_of}

module _ {X : Type 0} (p : X → Bool) where
  -- where nothing is found, nothing passes
  pub none_passes : (xs : List X) → find p xs ≡ None → list_any p xs ≡ false
  none_passes [] e = refl
  none_passes (x ∷ xs) e = at (p x) (none_passes xs) e
    where
      at : (b : Bool) → (find p xs ≡ None → list_any p xs ≡ false) → cond b (Some x) (find p xs) ≡ None → (b || list_any p xs) ≡ false
      at true so f = absurd (cc f)
      at false so f = so f

  pub none_found : (xs : List X) → list_any p xs ≡ false → find p xs ≡ None
  none_found [] e = refl
  none_found (x ∷ xs) e = at (p x) (none_found xs) e
    where
      at : (b : Bool) → (list_any p xs ≡ false → find p xs ≡ None) → (b || list_any p xs) ≡ false → cond b (Some x) (find p xs) ≡ None
      at true so f = absurd (cc f)
      at false so f = so f

  pub any-flat_map : {Y : Type 0} (f : Y → List X) (ys : List Y) → list_any p (flat_map f ys) ≡ list_any (λ y. list_any p (f y)) ys
  any-flat_map f [] = refl
  any-flat_map f (y ∷ ys) = list_any-append p (f y) (flat_map f ys) ∙ ap (λ b. list_any p (f y) || b) (any-flat_map f ys)

  pub any-map : {Y : Type 0} (f : Y → X) (ys : List Y) → list_any p (map f ys) ≡ list_any (λ y. p (f y)) ys
  any-map f [] = refl
  any-map f (y ∷ ys) = ap (λ b. p (f y) || b) (any-map f ys)

  pub any-same : (q : X → Bool) (xs : List X) → ((x : X) → p x ≡ q x) → list_any p xs ≡ list_any q xs
  any-same q [] e = refl
  any-same q (x ∷ xs) e = ap (λ b. b || list_any p xs) (e x) ∙ ap (λ b. q x || b) (any-same q xs e)

pub or_left : (b c : Bool) → (b || c) ≡ false → b ≡ false
or_left true c e = absurd (cc e)
or_left false c e = refl

pub or_right : (b c : Bool) → (b || c) ≡ false → c ≡ false
or_right true c e = absurd (cc e)
or_right false c e = e

pub or_false : (b : Bool) → (b || false) ≡ false → b ≡ false
or_false b e = or_left b false e

-- a number below the next one is below this one, or this one
pub up_to : (i n : ℕ) → i < suc n → (i < n) ⊎ (i ≡ n)
up_to zero zero l = inr refl
up_to zero (suc n) l = inl (omega arith)
up_to (suc i) zero l = absurd (omega (arith, l))
up_to (suc i) (suc n) l = elim (up_to i n (omega (arith, l))) [ inl h ↦ inl (omega (arith, h)) | inr h ↦ inr (ap (λ m. suc m) h) ]

pub below_or : (i n : ℕ) → (i < n) ⊎ (n ≤ i)
below_or i zero = inr (omega arith)
below_or zero (suc n) = inl (omega arith)
below_or (suc i) (suc n) = elim (below_or i n) [ inl l ↦ inl (omega (arith, l)) | inr l ↦ inr (omega (arith, l)) ]

-- what a list gives, one item further
pub filter_map_more : {X Y : Type 0} (h : X → Option Y) (xs : List X) (i : ℕ) (d : X) → i < length xs → filter_map h (take (i + 1) xs) ≡ filter_map h (take i xs) ++ cons_option (h (get_or xs i d)) []
filter_map_more h xs i d l = ap (filter_map h) (take_more xs i d l) ∙ filter_map-append h (take i xs) (get_or xs i d ∷ [])

-- the last item of a list that ends with it
pub last_behind : {X : Type 0} (o : Option X) (xs : List X) (x : X) → last_or o (xs ++ x ∷ []) ≡ Some x
last_behind o [] x = refl
last_behind o (y ∷ xs) x = last_behind (Some y) xs x

-- what is true in a list where one place was set
pub true_set : (bs : List Bool) (i e : ℕ) → get_or (set bs i true) e false ≡ true → (get_or bs e false ≡ true) ⊎ (e ≡ i)
true_set [] i e h = absurd (cc h)
true_set (b ∷ bs) zero zero h = inr refl
true_set (b ∷ bs) zero (suc e) h = inl h
true_set (b ∷ bs) (suc i) zero h = inl h
true_set (b ∷ bs) (suc i) (suc e) h = elim (true_set bs i e h) [ inl g ↦ inl g | inr g ↦ inr (ap (λ n. suc n) g) ]

pub none_true : (n e : ℕ) → get_or (replicate n false) e false ≡ false
none_true zero e = refl
none_true (suc n) zero = refl
none_true (suc n) (suc e) = none_true n e

module _ {X : Type 0} (f : ℕ → Option X) where
  -- the first that is given is the one at a number below which none is
  pub first_given : (n a k : ℕ) (x : X) → ((s : ℕ) → s < k → f (a + s) ≡ None) → k < n → f (a + k) ≡ Some x → first_of (map f (range_with_len a n)) ≡ Some x
  first_given zero a k x none l e = absurd (omega (arith, l))
  first_given (suc n) a zero x none l e = let z : a + 0 ≡ a = omega arith in ap (λ o. option_or o (first_of (map f (range_with_len (a + 1) n)))) (sym (ap f z) ∙ e)
  first_given (suc n) a (suc k) x none l e =
      let z : a + 0 ≡ a = omega arith in
      let first : f a ≡ None = sym (ap f z) ∙ none 0 (omega arith) in
      ap (λ o. option_or o (first_of (map f (range_with_len (a + 1) n)))) first
      ∙ first_given n (a + 1) k x (λ s h. let m : a + 1 + s ≡ a + suc s = omega arith in ap f m ∙ none (suc s) (omega (arith, h))) (omega (arith, l)) (let m : a + 1 + k ≡ a + suc k = omega arith in ap f m ∙ e)

  pub none_given : (n a : ℕ) → ((s : ℕ) → s < n → f (a + s) ≡ None) → first_of (map f (range_with_len a n)) ≡ None
  none_given zero a none = refl
  none_given (suc n) a none =
      let z : a + 0 ≡ a = omega arith in
      let first : f a ≡ None = sym (ap f z) ∙ none 0 (omega arith) in
      ap (λ o. option_or o (first_of (map f (range_with_len (a + 1) n)))) first
      ∙ none_given n (a + 1) (λ s h. let m : a + 1 + s ≡ a + suc s = omega arith in ap f m ∙ none (suc s) (omega (arith, h)))

  -- where one is given, it is that of a number below which none is
  pub which_given : (n a : ℕ) (x : X) → first_of (map f (range_with_len a n)) ≡ Some x → (k : ℕ) × (k < n) × (f (a + k) ≡ Some x) × ((s : ℕ) → s < k → f (a + s) ≡ None)
  which_given zero a x e = absurd (cc e)
  which_given (suc n) a x e = at (f a) refl (which_given n (a + 1) x) e
    where
      before : f a ≡ None → (k : ℕ) → ((s : ℕ) → s < k → f (a + 1 + s) ≡ None) → (s : ℕ) → s < suc k → f (a + s) ≡ None
      before g k none zero l = let z : a + 0 ≡ a = omega arith in ap f z ∙ g
      before g k none (suc s) l = let m : a + suc s ≡ a + 1 + s = omega arith in ap f m ∙ none s (omega (arith, l))

      at : (o : Option X) → f a ≡ o → (first_of (map f (range_with_len (a + 1) n)) ≡ Some x → (k : ℕ) × (k < n) × (f (a + 1 + k) ≡ Some x) × ((s : ℕ) → s < k → f (a + 1 + s) ≡ None))
          → option_or o (first_of (map f (range_with_len (a + 1) n))) ≡ Some x
          → (k : ℕ) × (k < suc n) × (f (a + k) ≡ Some x) × ((s : ℕ) → s < k → f (a + s) ≡ None)
      at (Some y) g so h = (0, omega arith, (let z : a + 0 ≡ a = omega arith in ap f z ∙ g ∙ h), λ s l. absurd (omega (arith, l)))
      at None g so h =
          let w = so h in
          (suc w.0, (let l : w.0 < n = w.1 in omega (arith, l)), (let m : a + suc w.0 ≡ a + 1 + w.0 = omega arith in ap f m ∙ w.2), before g w.0 w.3)

  pub none_were : (n a : ℕ) → first_of (map f (range_with_len a n)) ≡ None → (s : ℕ) → s < n → f (a + s) ≡ None
  none_were zero a e s l = absurd (omega (arith, l))
  none_were (suc n) a e s l = at (f a) refl (none_were n (a + 1)) e s l
    where
      at : (o : Option X) → f a ≡ o → (first_of (map f (range_with_len (a + 1) n)) ≡ None → (s : ℕ) → s < n → f (a + 1 + s) ≡ None)
          → option_or o (first_of (map f (range_with_len (a + 1) n))) ≡ None → (s : ℕ) → s < suc n → f (a + s) ≡ None
      at (Some y) g so h s l = absurd (cc h)
      at None g so h zero l = let z : a + 0 ≡ a = omega arith in ap f z ∙ g
      at None g so h (suc s) l = let m : a + suc s ≡ a + 1 + s = omega arith in ap f m ∙ so h s (omega (arith, l))
