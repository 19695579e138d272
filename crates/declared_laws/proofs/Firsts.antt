-- The first elements of each key, and where elements stand.
use Rattle.std.proofs.Common.{◌≡◌, ◌∙◌, ℕ, zero, suc, ◌<◌, ◌||◌, Bool, true, false, cond, not, List, [], ◌∷◌, Some, None, get_or, length, map, slice_get, refl, sym, ap, subst, inl, inr, arith}
use Rattle.std.specs.Prelude.{find, nat_lt, position}
use Rattle.std.specs.List.{AllByRecursion, IsDistinct, list_any, position_or_len}
use Rattle.std.specs.Str.{bytes_eq}
use Rattle.std.proofs.lemmas.Bool.{ltb-false}
use Rattle.std.proofs.lemmas.List.Folds.{find_at}
use Rattle.std.proofs.lemmas.List.Quantifiers.{position-Some}
use Rattle.std.proofs.lemmas.Option.{slice_get_past}
use Rattle.std.proofs.lemmas.Slice.Eq.{bytes_eq-Decides}
use Rattle.run_model.specs.EngineRules.{Among}
use Rattle.run_model.proofs.DistinctLists.{among_filter, from_filter}
use Rattle.tree_base.specs.ByteOrder.{first_of_each}
use Rattle.declared_laws.proofs.Ascending.{Up, any_of, up_filter}

pub same_text : (t : List ℕ) → bytes_eq t t ≡ true
same_text t = (bytes_eq-Decides t t).1 refl

pub other_text : (s t : List ℕ) → (s ≡ t → ⊥) → bytes_eq s t ≡ false
other_text s t other = at (bytes_eq s t) refl
  where
    at : (b : Bool) → bytes_eq s t ≡ b → bytes_eq s t ≡ false
    at true e = absurd (other ((bytes_eq-Decides s t).0 e))
    at false e = e

pub not_same : (s t : List ℕ) → bytes_eq s t ≡ false → s ≡ t → ⊥
not_same s t e same = let bad : true ≡ false = sym ((bytes_eq-Decides s t).1 same) ∙ e in cc bad

not_true : (b : Bool) → not b ≡ true → b ≡ false
not_true true e = absurd (cc e)
not_true false e = refl

module _ {X : Type 0} (key : X → List ℕ) where
  -- whether two elements have different keys
  abbrev pub differ : X → X → Bool
  differ x y = not (bytes_eq (key x) (key y))

  all_differ : (x : X) (xs : List X) → ((y : X) → Among xs y → differ x y ≡ true) → AllByRecursion (λ t. bytes_eq (key x) t ≡ false) (map key xs)
  all_differ x [] h = tt
  all_differ x (y ∷ ys) h = (not_true (bytes_eq (key x) (key y)) (h y (inl refl)), all_differ x ys (λ z m. h z (inr m)))

  pub up_distinct : (xs : List X) → Up differ xs → IsDistinct bytes_eq (map key xs)
  unfolding IsDistinct
  up_distinct [] up = tt
  up_distinct (x ∷ xs) up = (all_differ x xs up.0, up_distinct xs up.1)

  -- the keys of the first elements differ
  firsts_up : (xs : List X) → Up differ (first_of_each key xs)
  firsts_up [] = tt
  firsts_up (x ∷ xs) = (λ y m. (from_filter (differ x) (first_of_each key xs) y m).0, up_filter differ (differ x) (first_of_each key xs) (firsts_up xs))

  pub firsts_distinct : (xs : List X) → IsDistinct bytes_eq (map key (first_of_each key xs))
  firsts_distinct xs = up_distinct (first_of_each key xs) (firsts_up xs)

  -- each key is that of a first element
  pub first_kept : (xs : List X) (x : X) → Among xs x → (y : X) × Among (first_of_each key xs) y × (key y ≡ key x)
  first_kept [] x m = absurd m
  first_kept (z ∷ zs) x (inl e) = (z, inl refl, ap key (sym e))
  first_kept (z ∷ zs) x (inr m) = let r = first_kept zs x m in at r.0 r.1 r.2 (bytes_eq (key z) (key r.0)) refl
    where
      at : (y : X) → Among (first_of_each key zs) y → key y ≡ key x → (b : Bool) → bytes_eq (key z) (key y) ≡ b
          → (w : X) × Among (first_of_each key (z ∷ zs)) w × (key w ≡ key x)
      at y n e true h = (z, inl refl, (bytes_eq-Decides (key z) (key y)).0 h ∙ e)
      at y n e false h = (y, inr (among_filter (differ z) (first_of_each key zs) y (ap not h) n), e)

  pub from_firsts : (xs : List X) (x : X) → Among (first_of_each key xs) x → Among xs x
  from_firsts [] x m = absurd m
  from_firsts (z ∷ zs) x (inl e) = inl e
  from_firsts (z ∷ zs) x (inr m) = inr (from_firsts zs x (from_filter (differ z) (first_of_each key zs) x m).1)

module _ {X : Type 0} (p : X → Bool) where
  get_at : (xs : List X) (i : ℕ) (d : X) → i < length xs → slice_get xs i ≡ Some (get_or xs i d)
  get_at [] i d l = absurd (omega (arith, l))
  get_at (x ∷ xs) zero d l = refl
  get_at (x ∷ xs) (suc i) d l = get_at xs i d (omega (arith, l))

  -- what stands at the place that is found
  pub found_at : (xs : List X) (i : ℕ) → position p xs ≡ Some i → (x : X) × (i < length xs) × (slice_get xs i ≡ Some x) × (p x ≡ true)
  found_at [] i e = absurd (cc e)
  found_at (x ∷ xs) i e = let r = position-Some p (x ∷ xs) i x e in (get_or (x ∷ xs) i x, r.0, get_at (x ∷ xs) i x r.0, r.1)

  none_passes : (xs : List X) → find p xs ≡ None → list_any p xs ≡ false
  none_passes [] e = refl
  none_passes (x ∷ xs) e = at (p x) (none_passes xs) e
    where
      at : (b : Bool) → (find p xs ≡ None → list_any p xs ≡ false) → cond b (Some x) (find p xs) ≡ None → (b || list_any p xs) ≡ false
      at true so f = absurd (cc f)
      at false so f = so f

  no_place : (b : Bool) (n : ℕ) → cond b (Some n) None ≡ None → b ≡ false
  no_place true n e = absurd (cc e)
  no_place false n e = refl

  -- where no place is found, nothing passes
  pub not_found : (xs : List X) (x : X) → position p xs ≡ None → Among xs x → p x ≡ true → ⊥
  not_found xs x e m passes =
      let past = ltb-false (position_or_len p xs) (length xs) (no_place (nat_lt (position_or_len p xs) (length xs)) (position_or_len p xs) e) in
      let none = none_passes xs (find_at p xs ∙ slice_get_past xs (position_or_len p xs) past) in
      let bad : true ≡ false = sym (any_of p xs x m passes) ∙ none in
      cc bad

  -- what is found passes, and stands among the elements
  pub found : (xs : List X) (x : X) → find p xs ≡ Some x → Among xs x × (p x ≡ true)
  found [] x e = absurd (cc e)
  found (y ∷ ys) x e = at (p y) refl e (found ys x)
    where
      at : (b : Bool) → p y ≡ b → cond b (Some y) (find p ys) ≡ Some x → (find p ys ≡ Some x → Among ys x × (p x ≡ true)) → Among (y ∷ ys) x × (p x ≡ true)
      at true h f rest = let same : y ≡ x = cc f in (inl (sym same), subst (λ (z : X). p z ≡ true) same h)
      at false h f rest = let r = rest f in (inr r.0, r.1)
