-- What holds of each element of a list, also when it is sorted or kept.
use Rattle.std.proofs.Common.{◌≡◌, ◌∙◌, ℕ, Bool, true, false, cond, List, [], ◌∷◌, Some, None, map, refl, sym, ap}
use Rattle.std.specs.Prelude.{◌||◌, filter, find}
use Rattle.std.specs.List.{list_any}
use Rattle.std.specs.Str.{bytes_eq}
use Rattle.std.proofs.lemmas.Slice.Eq.{bytes_eq-Decides}
use Rattle.tree_base.specs.ByteOrder.{by_key, is_before, placed}

-- a fact on each
abbrev pub Each : {X : Type 0} → (X → Type 0) → List X → Type 0
Each P [] = Unit {0}
Each P (x ∷ xs) = P x × Each P xs

module _ {X : Type 0} where
  pub each-map : (P Q : X → Type 0) → ((x : X) → P x → Q x) → (xs : List X) → Each P xs → Each Q xs
  each-map P Q so [] h = tt
  each-map P Q so (x ∷ xs) h = (so x h.0, each-map P Q so xs h.1)

  pub each-both : (P Q R : X → Type 0) → ((x : X) → P x → Q x → R x) → (xs : List X) → Each P xs → Each Q xs → Each R xs
  each-both P Q R so [] h k = tt
  each-both P Q R so (x ∷ xs) h k = (so x h.0 k.0, each-both P Q R so xs h.1 k.1)

  pub each-filter : (P : X → Type 0) (test : X → Bool) (xs : List X) → Each P xs → Each P (filter test xs)
  each-filter P test [] h = tt
  each-filter P test (x ∷ xs) h = at (test x) (each-filter P test xs h.1)
    where
      at : (b : Bool) → Each P (filter test xs) → Each P (cond b (x ∷ filter test xs) (filter test xs))
      at true rest = (h.0, rest)
      at false rest = rest

  -- what is kept passes
  pub each-kept : (test : X → Bool) (xs : List X) → Each (λ x. test x ≡ true) (filter test xs)
  each-kept test [] = tt
  each-kept test (x ∷ xs) = at (test x) refl (each-kept test xs)
    where
      at : (b : Bool) → test x ≡ b → Each (λ x. test x ≡ true) (filter test xs) → Each (λ x. test x ≡ true) (cond b (x ∷ filter test xs) (filter test xs))
      at true e rest = (e, rest)
      at false e rest = rest

  -- to keep what passes once more changes nothing
  pub filter_all : (test : X → Bool) (xs : List X) → Each (λ x. test x ≡ true) xs → filter test xs ≡ xs
  filter_all test [] h = refl
  filter_all test (x ∷ xs) h = ap (λ b. cond b (x ∷ filter test xs) (filter test xs)) h.0 ∙ ap (λ l. x ∷ l) (filter_all test xs h.1)

  pub filter-filter : (test : X → Bool) (xs : List X) → filter test (filter test xs) ≡ filter test xs
  filter-filter test xs = filter_all test (filter test xs) (each-kept test xs)

  module _ (key : X → List ℕ) (P : X → Type 0) where
    pub each-placed : (x : X) (xs : List X) → P x → Each P xs → Each P (placed key x xs)
    each-placed x [] p h = (p, tt)
    each-placed x (y ∷ ys) p h = at (is_before (key y) (key x)) (each-placed x ys p h.1)
      where
        at : (b : Bool) → Each P (placed key x ys) → Each P (cond b (y ∷ placed key x ys) (x ∷ y ∷ ys))
        at true rest = (h.0, rest)
        at false rest = (p, h)

    pub each-by_key : (xs : List X) → Each P xs → Each P (by_key key xs)
    each-by_key [] h = tt
    each-by_key (x ∷ xs) h = each-placed x (by_key key xs) h.0 (each-by_key xs h.1)

    of_placed : (x : X) (xs : List X) → Each P (placed key x xs) → P x × Each P xs
    of_placed x [] h = (h.0, tt)
    of_placed x (y ∷ ys) h = at (is_before (key y) (key x)) h (of_placed x ys)
      where
        at : (b : Bool) → Each P (cond b (y ∷ placed key x ys) (x ∷ y ∷ ys)) → (Each P (placed key x ys) → P x × Each P ys) → P x × Each P (y ∷ ys)
        at true h so = let rest = so h.1 in (rest.0, (h.0, rest.1))
        at false h so = (h.0, h.1)

    -- what holds of each sorted element holds of each
    pub each_unsorted : (xs : List X) → Each P (by_key key xs) → Each P xs
    each_unsorted [] h = tt
    each_unsorted (x ∷ xs) h = let parts = of_placed x (by_key key xs) h in (parts.0, each_unsorted xs parts.1)

  -- none is found where none passes, and only there
  pub none_found : (test : X → Bool) (xs : List X) → Each (λ x. test x ≡ false) xs → find test xs ≡ None
  none_found test [] h = refl
  none_found test (x ∷ xs) h = ap (λ b. cond b (Some x) (find test xs)) h.0 ∙ none_found test xs h.1

  pub none_passes : (test : X → Bool) (xs : List X) → find test xs ≡ None → Each (λ x. test x ≡ false) xs
  none_passes test [] h = tt
  none_passes test (x ∷ xs) h = at (test x) refl h (none_passes test xs)
    where
      at : (b : Bool) → test x ≡ b → cond b (Some x) (find test xs) ≡ None → (find test xs ≡ None → Each (λ x. test x ≡ false) xs) → (test x ≡ false) × Each (λ x. test x ≡ false) xs
      at true e h so = absurd (cc h)
      at false e h so = (e, so h)

pub each_of-map : {X Y : Type 0} (f : X → Y) (P : Y → Type 0) (xs : List X) → Each (λ x. P (f x)) xs → Each P (map f xs)
each_of-map f P [] h = tt
each_of-map f P (x ∷ xs) h = (h.0, each_of-map f P xs h.1)

pub each_before-map : {X Y : Type 0} (f : X → Y) (P : Y → Type 0) (xs : List X) → Each P (map f xs) → Each (λ x. P (f x)) xs
each_before-map f P [] h = tt
each_before-map f P (x ∷ xs) h = (h.0, each_before-map f P xs h.1)

pub map_same : {X Y : Type 0} (f g : X → Y) (xs : List X) → Each (λ x. f x ≡ g x) xs → map f xs ≡ map g xs
map_same f g [] h = refl
map_same f g (x ∷ xs) h = ap (λ y. y ∷ map f xs) h.0 ∙ ap (λ l. g x ∷ l) (map_same f g xs h.1)

pub map-map : {X Y Z : Type 0} (g : Y → Z) (f : X → Y) (xs : List X) → map g (map f xs) ≡ map (λ x. g (f x)) xs
map-map g f [] = refl
map-map g f (x ∷ xs) = ap (λ l. g (f x) ∷ l) (map-map g f xs)

pub map_itself : {X : Type 0} (f : X → X) (xs : List X) → Each (λ x. f x ≡ x) xs → map f xs ≡ xs
map_itself f [] h = refl
map_itself f (x ∷ xs) h = ap (λ y. y ∷ map f xs) h.0 ∙ ap (λ l. x ∷ l) (map_itself f xs h.1)

-- names among names
abbrev pub IsIn : List (List ℕ) → List ℕ → Type 0
IsIn names name = list_any (bytes_eq name) names ≡ true

or_more : (b c : Bool) → c ≡ true → (b || c) ≡ true
or_more true c h = refl
or_more false c h = h

pub is_in_more : (first name : List ℕ) (names : List (List ℕ)) → IsIn names name → IsIn (first ∷ names) name
is_in_more first name names h = or_more (bytes_eq name first) (list_any (bytes_eq name) names) h

-- each name is among them
pub each_is_in : (names : List (List ℕ)) → Each (IsIn names) names
each_is_in [] = tt
each_is_in (first ∷ names) =
    (ap (λ b. b || list_any (bytes_eq first) names) ((bytes_eq-Decides first first).1 refl), each-map (IsIn names) (IsIn (first ∷ names)) (λ name h. is_in_more first name names h) names (each_is_in names))

module _ {X : Type 0} (key : X → List ℕ) (used : List ℕ → Bool) (name : List ℕ) (is_used : used name ≡ true) where
  -- the key of an element is still there if elements with that key are kept
  pub key_kept : (xs : List X) → IsIn (map key xs) name → IsIn (map key (filter (λ x. used (key x)) xs)) name
  key_kept [] h = absurd (cc h)
  key_kept (x ∷ xs) h = at (bytes_eq name (key x)) refl (used (key x)) refl h (key_kept xs)
    where
      at : (b : Bool) → bytes_eq name (key x) ≡ b → (d : Bool) → used (key x) ≡ d → (b || list_any (bytes_eq name) (map key xs)) ≡ true
          → (IsIn (map key xs) name → IsIn (map key (filter (λ x. used (key x)) xs)) name)
          → IsIn (map key (cond d (x ∷ filter (λ x. used (key x)) xs) (filter (λ x. used (key x)) xs))) name
      at true e true f h so = ap (λ b. b || list_any (bytes_eq name) (map key (filter (λ x. used (key x)) xs))) e
      at true e false f h so =
          let bad : true ≡ false = sym is_used ∙ ap used ((bytes_eq-Decides name (key x)).0 e) ∙ f in absurd (cc bad)
      at false e true f h so = is_in_more (key x) name (map key (filter (λ x. used (key x)) xs)) (so h)
      at false e false f h so = so h

-- the key of an element that is placed, and of each other, is there
pub key_placed : {X : Type 0} (key : X → List ℕ) (x : X) (xs : List X) → IsIn (map key (placed key x xs)) (key x)
key_placed key x [] = ap (λ b. b || false) ((bytes_eq-Decides (key x) (key x)).1 refl)
key_placed key x (y ∷ ys) = at (is_before (key y) (key x)) (key_placed key x ys)
  where
    at : (b : Bool) → IsIn (map key (placed key x ys)) (key x) → IsIn (map key (cond b (y ∷ placed key x ys) (x ∷ y ∷ ys))) (key x)
    at true rest = is_in_more (key y) (key x) (map key (placed key x ys)) rest
    at false rest = ap (λ b. b || list_any (bytes_eq (key x)) (key y ∷ map key ys)) ((bytes_eq-Decides (key x) (key x)).1 refl)

pub key_still : {X : Type 0} (key : X → List ℕ) (x : X) (name : List ℕ) (xs : List X) → IsIn (map key xs) name → IsIn (map key (placed key x xs)) name
key_still key x name [] h = absurd (cc h)
key_still key x name (y ∷ ys) h = at (is_before (key y) (key x)) (bytes_eq name (key y)) refl h (key_still key x name ys)
  where
    at : (b d : Bool) → bytes_eq name (key y) ≡ d → (d || list_any (bytes_eq name) (map key ys)) ≡ true → (IsIn (map key ys) name → IsIn (map key (placed key x ys)) name)
        → IsIn (map key (cond b (y ∷ placed key x ys) (x ∷ y ∷ ys))) name
    at true true e h so = ap (λ d. d || list_any (bytes_eq name) (map key (placed key x ys))) e
    at true false e h so = is_in_more (key y) name (map key (placed key x ys)) (so h)
    at false d e h so = is_in_more (key x) name (key y ∷ map key ys) (ap (λ d. d || list_any (bytes_eq name) (map key ys)) e ∙ h)
