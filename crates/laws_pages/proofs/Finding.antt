-- What is found among elements that are placed, sorted or kept.
use Rattle.std.proofs.Common.{◌≡◌, ◌∙◌, ℕ, Bool, true, false, cond, List, [], ◌∷◌, ◌++◌, Some, None, map, refl, sym, ap}
use Rattle.std.specs.Prelude.{filter, find}
use Rattle.std.specs.Option.{option_map, option_or}
use Rattle.std.specs.Str.{bytes_eq}
use Rattle.std.proofs.lemmas.Slice.Eq.{bytes_eq-Decides}
use Rattle.tree_base.specs.ByteOrder.{by_key, is_before, placed}
use Rattle.tree_base.specs.Entries.{value_at}
use Rattle.tree_base.proofs.Sorting.{same_place}
use Rattle.laws_pages.proofs.Rising.{not_after, placed-placed}

-- no key stands before itself
pub not_before_itself : (s : List ℕ) → is_before s s ≡ false
not_before_itself s = at (is_before s s) refl
  where
    at : (b : Bool) → is_before s s ≡ b → is_before s s ≡ false
    at true e = not_after s s e
    at false e = e

module _ {X : Type 0} (key : X → List ℕ) (test : X → Bool) where
  pub find-placed_out : (x : X) (xs : List X) → test x ≡ false → find test (placed key x xs) ≡ find test xs
  find-placed_out x [] fails = ap (λ b. cond b (Some x) None) fails
  find-placed_out x (y ∷ ys) fails = at (is_before (key y) (key x)) (find-placed_out x ys fails)
    where
      at : (b : Bool) → find test (placed key x ys) ≡ find test ys → find test (cond b (y ∷ placed key x ys) (x ∷ y ∷ ys)) ≡ find test (y ∷ ys)
      at true rest = ap (λ o. cond (test y) (Some y) o) rest
      at false rest = ap (λ b. cond b (Some x) (find test (y ∷ ys))) fails

  module _ (keep : X → Bool) where
    -- what passes a test that is stronger is found among those that are kept
    pub find-filter : ((y : X) → test y ≡ true → keep y ≡ true) → (xs : List X) → find test (filter keep xs) ≡ find test xs
    find-filter stronger [] = refl
    find-filter stronger (x ∷ xs) = at (keep x) refl (test x) refl (find-filter stronger xs)
      where
        at : (b : Bool) → keep x ≡ b → (d : Bool) → test x ≡ d → find test (filter keep xs) ≡ find test xs
            → find test (cond b (x ∷ filter keep xs) (filter keep xs)) ≡ cond d (Some x) (find test xs)
        at true e d f rest = ap (λ d. cond d (Some x) (find test (filter keep xs))) f ∙ ap (λ o. cond d (Some x) o) rest
        at false e true f rest = let bad : true ≡ false = sym (stronger x f) ∙ e in absurd (cc bad)
        at false e false f rest = rest

    -- what passes is not kept
    pub find-filter_none : ((y : X) → test y ≡ true → keep y ≡ false) → (xs : List X) → find test (filter keep xs) ≡ None
    find-filter_none out [] = refl
    find-filter_none out (x ∷ xs) = at (keep x) refl (test x) refl (find-filter_none out xs)
      where
        at : (b : Bool) → keep x ≡ b → (d : Bool) → test x ≡ d → find test (filter keep xs) ≡ None
            → find test (cond b (x ∷ filter keep xs) (filter keep xs)) ≡ None
        at true e true f rest = let bad : true ≡ false = sym e ∙ out x f in absurd (cc bad)
        at true e false f rest = ap (λ d. cond d (Some x) (find test (filter keep xs))) f ∙ rest
        at false e d f rest = rest

-- an element is found by its own key wherever it is placed
pub find-placed : {X : Type 0} (key : X → List ℕ) (x : X) (xs : List X) → find (λ y. bytes_eq (key y) (key x)) (placed key x xs) ≡ Some x
find-placed key x [] = ap (λ b. cond b (Some x) None) ((bytes_eq-Decides (key x) (key x)).1 refl)
find-placed {X} key x (y ∷ ys) = at (is_before (key y) (key x)) refl (bytes_eq (key y) (key x)) refl (find-placed key x ys)
  where
    at : (b : Bool) → is_before (key y) (key x) ≡ b → (d : Bool) → bytes_eq (key y) (key x) ≡ d → find (λ z. bytes_eq (key z) (key x)) (placed key x ys) ≡ Some x
        → find (λ z. bytes_eq (key z) (key x)) (cond b (y ∷ placed key x ys) (x ∷ y ∷ ys)) ≡ Some x
    at true e true f rest =
        let bad : true ≡ false = sym e ∙ ap (λ (t : List ℕ). is_before t (key x)) ((bytes_eq-Decides (key y) (key x)).0 f) ∙ not_before_itself (key x) in absurd (cc bad)
    at true e false f rest = ap (λ d. cond d (Some y) (find (λ z. bytes_eq (key z) (key x)) (placed key x ys))) f ∙ rest
    at false e d f rest = ap (λ d. cond d (Some x) (find (λ z. bytes_eq (key z) (key x)) (y ∷ ys))) ((bytes_eq-Decides (key x) (key x)).1 refl)

module _ {V : Type 0} where
  -- the value under a key among entries of which one was placed
  pub value-placed : (k : List ℕ) (e : List ℕ × V) (es : List (List ℕ × V)) → value_at (placed (λ entry. entry.0) e es) k ≡ cond (bytes_eq k e.0) (Some e.1) (value_at es k)
  value-placed k e [] = refl
  value-placed k e (y ∷ ys) = at (is_before y.0 e.0) refl (bytes_eq k y.0) refl (bytes_eq k e.0) refl (value-placed k e ys)
    where
      same : (s t : List ℕ) → bytes_eq s t ≡ true → s ≡ t
      same s t h = (bytes_eq-Decides s t).0 h

      at : (b : Bool) → is_before y.0 e.0 ≡ b → (c : Bool) → bytes_eq k y.0 ≡ c → (d : Bool) → bytes_eq k e.0 ≡ d
          → value_at (placed (λ entry. entry.0) e ys) k ≡ cond (bytes_eq k e.0) (Some e.1) (value_at ys k)
          → value_at (cond b (y ∷ placed (λ entry. entry.0) e ys) (e ∷ y ∷ ys)) k ≡ cond d (Some e.1) (cond c (Some y.1) (value_at ys k))
      at true f true g true h rest =
          let equal : e.0 ≡ y.0 = sym (same k e.0 h) ∙ same k y.0 g in
          let bad : true ≡ false = sym f ∙ ap (λ (t : List ℕ). is_before y.0 t) equal ∙ not_before_itself y.0 in absurd (cc bad)
      at true f true g false h rest = ap (λ c. cond c (Some y.1) (value_at (placed (λ entry. entry.0) e ys) k)) g
      at true f false g d h rest =
          ap (λ c. cond c (Some y.1) (value_at (placed (λ entry. entry.0) e ys) k)) g ∙ rest ∙ ap (λ d. cond d (Some e.1) (value_at ys k)) h
      at false f c g d h rest = ap (λ d. cond d (Some e.1) (cond (bytes_eq k y.0) (Some y.1) (value_at ys k))) h ∙ ap (λ c. cond d (Some e.1) (cond c (Some y.1) (value_at ys k))) g

  -- it is the same among sorted entries
  pub value-by_key : (k : List ℕ) (es : List (List ℕ × V)) → value_at (by_key (λ entry. entry.0) es) k ≡ value_at es k
  value-by_key k [] = refl
  value-by_key k (e ∷ es) = value-placed k e (by_key (λ entry. entry.0) es) ∙ ap (λ o. cond (bytes_eq k e.0) (Some e.1) o) (value-by_key k es)

  pub value-append : (k : List ℕ) (es os : List (List ℕ × V)) → value_at (es ++ os) k ≡ option_or (value_at es k) (value_at os k)
  value-append k [] os = refl
  value-append k (e ∷ es) os = at (bytes_eq k e.0) (value-append k es os)
    where
      at : (b : Bool) → value_at (es ++ os) k ≡ option_or (value_at es k) (value_at os k) → cond b (Some e.1) (value_at (es ++ os) k) ≡ option_or (cond b (Some e.1) (value_at es k)) (value_at os k)
      at true rest = refl
      at false rest = rest

  -- an entry under a key that has none goes to its place among the sorted ones
  pub by_key-push : (e : List ℕ × V) (es : List (List ℕ × V)) → value_at es e.0 ≡ None → by_key (λ entry. entry.0) (es ++ e ∷ []) ≡ placed (λ entry. entry.0) e (by_key (λ entry. entry.0) es)
  by_key-push e [] none = refl
  by_key-push e (y ∷ ys) none = at (bytes_eq e.0 y.0) refl none (by_key-push e ys)
    where
      swapped : bytes_eq e.0 y.0 ≡ false → placed (λ entry. entry.0) y (placed (λ entry. entry.0) e (by_key (λ entry. entry.0) ys)) ≡ placed (λ entry. entry.0) e (placed (λ entry. entry.0) y (by_key (λ entry. entry.0) ys))
      swapped f = both (is_before e.0 y.0) refl (is_before y.0 e.0) refl
        where
          both : (b : Bool) → is_before e.0 y.0 ≡ b → (c : Bool) → is_before y.0 e.0 ≡ c
              → placed (λ entry. entry.0) y (placed (λ entry. entry.0) e (by_key (λ entry. entry.0) ys)) ≡ placed (λ entry. entry.0) e (placed (λ entry. entry.0) y (by_key (λ entry. entry.0) ys))
          both true g c h = sym (placed-placed (λ (entry : List ℕ × V). entry.0) e y (by_key (λ entry. entry.0) ys) g)
          both false g true h = placed-placed (λ (entry : List ℕ × V). entry.0) y e (by_key (λ entry. entry.0) ys) h
          both false g false h =
              let bad : true ≡ false = sym ((bytes_eq-Decides e.0 y.0).1 (same_place e.0 y.0 g h)) ∙ f in absurd (cc bad)

      at : (b : Bool) → bytes_eq e.0 y.0 ≡ b → cond b (Some y.1) (value_at ys e.0) ≡ None
          → (value_at ys e.0 ≡ None → by_key (λ entry. entry.0) (ys ++ e ∷ []) ≡ placed (λ entry. entry.0) e (by_key (λ entry. entry.0) ys))
          → placed (λ entry. entry.0) y (by_key (λ entry. entry.0) (ys ++ e ∷ [])) ≡ placed (λ entry. entry.0) e (placed (λ entry. entry.0) y (by_key (λ entry. entry.0) ys))
      at true f none so = absurd (cc none)
      at false f none so = ap (placed (λ entry. entry.0) y) (so none) ∙ swapped f

module _ {V W : Type 0} (f : V → W) where
  pub value-map : (k : List ℕ) (es : List (List ℕ × V)) → value_at (map (λ (e : List ℕ × V). (e.0, f e.1)) es) k ≡ option_map f (value_at es k)
  value-map k [] = refl
  value-map k (e ∷ es) = at (bytes_eq k e.0) (value-map k es)
    where
      at : (b : Bool) → value_at (map (λ (e : List ℕ × V). (e.0, f e.1)) es) k ≡ option_map f (value_at es k)
          → cond b (Some (f e.1)) (value_at (map (λ (e : List ℕ × V). (e.0, f e.1)) es) k) ≡ option_map f (cond b (Some e.1) (value_at es k))
      at true rest = refl
      at false rest = rest
