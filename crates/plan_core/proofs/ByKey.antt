-- A stable sort by a key gives the elements in byte order of their keys, as insertion does.
use Rattle.std.proofs.Common.{◌≡◌, ℕ, suc, ◌+◌, Bool, true, false, not, cond, ◌&&◌, List, [], ◌∷◌, get_or, refl, sym, ap, ◌∙◌, subst, inl, inr, arith}
use Rattle.std.specs.Prelude.{filter}
use Rattle.std.specs.Cmp.{IsStrictWeakOrder}
use Rattle.std.specs.Cmp.Lexicographic.{nat_list_cmp_total}
use Rattle.std.specs.List.Sorted.{ties, IsSortedBy, IsStableBy}
use Rattle.std.proofs.lemmas.List.Sorted.{ranks_by, sorted_far}
use Rattle.std.proofs.lemmas.Option.{get_or_from_slice_get, slice_get_within}
use Rattle.run_model.specs.EngineRules.{Among}
use Rattle.tree_base.specs.ByteOrder.{by_key, is_before, placed}
use Rattle.run_model.proofs.DistinctLists.{at_place, from_filter, from_placed}
use Rattle.plan_core.proofs.Splits.{by_cases, filter-no, filter-yes}

neither : (a b : Bool) → (not a && not b) ≡ true → (a ≡ false) × (b ≡ false)
neither true b e = absurd (cc e)
neither false true e = absurd (cc e)
neither false false e = (refl, refl)

module _ {X : Type 0} (lt : X → X → Bool) (order : IsStrictWeakOrder lt) where
  -- no element is less than an earlier one
  abbrev pub Rising : List X → Type 0
  Rising [] = Unit {0}
  Rising (x ∷ xs) = ((y : X) → Among xs y → lt y x ≡ false) × Rising xs

  itself : (x : X) → lt x x ≡ false
  itself x = by_cases (lt x x) (λ t. order.one_way x x t) (λ f. f)

  ties_itself : (x : X) → ties lt x x ≡ true
  ties_itself x = ap (λ (b : Bool). not b && not b) (itself x)

  tails : (p : X → Bool) (y z : X) (ys zs : List X) → y ≡ z → filter p (y ∷ ys) ≡ filter p (z ∷ zs) → filter p ys ≡ filter p zs
  tails p y z ys zs e h = by_cases (p y)
      (λ t. let g : y ∷ filter p ys ≡ z ∷ filter p zs = sym (filter-yes p y ys t) ∙ h ∙ filter-yes p z zs (sym (ap p e) ∙ t) in cc g)
      (λ f. sym (filter-no p y ys f) ∙ h ∙ filter-no p z zs (sym (ap p e) ∙ f))

  -- an element that passes and stands first on one side alone stands later on the other side
  later : (p : X → Bool) (y z : X) (ys zs : List X) → p y ≡ true → p z ≡ false → filter p (y ∷ ys) ≡ filter p (z ∷ zs) → Among zs y
  later p y z ys zs t f h =
      let e : y ∷ filter p ys ≡ filter p zs = sym (filter-yes p y ys t) ∙ h ∙ filter-no p z zs f in
      (from_filter p zs y (subst (λ (l : List X). Among l y) e (inl refl))).1

  unlike : (y z : X) → ties lt y z ≡ false → (lt y z ≡ false) → lt z y ≡ true
  unlike y z f g = by_cases (lt z y) (λ t. t)
      (λ u. let bad : true ≡ false = sym (ap (λ (b : Bool). not b && not (lt z y)) g ∙ ap (λ (b : Bool). not false && not b) u) ∙ f in absurd (cc bad))

  flipped : (y z : X) → lt z y ≡ true → ties lt z y ≡ false
  flipped y z t = ap (λ (b : Bool). not b && not (lt y z)) t

  heads : (y z : X) (ys zs : List X) → Rising (y ∷ ys) → Rising (z ∷ zs) → ((x : X) → filter (ties lt x) (y ∷ ys) ≡ filter (ties lt x) (z ∷ zs)) → y ≡ z
  heads y z ys zs ry rz same = by_cases (ties lt y z)
      (λ t. let e : y ∷ filter (ties lt y) ys ≡ z ∷ filter (ties lt y) zs = sym (filter-yes (ties lt y) y ys (ties_itself y)) ∙ same y ∙ filter-yes (ties lt y) z zs t in cc e)
      (λ f. by_cases (lt y z)
      (λ t. let bad : true ≡ false = sym t ∙ rz.0 y (later (ties lt y) y z ys zs (ties_itself y) f (same y)) in absurd (cc bad))
      (λ g. let t = unlike y z f g in
      let bad : true ≡ false = sym t ∙ ry.0 z (later (ties lt z) z y zs ys (ties_itself z) (flipped y z t) (sym (same z))) in absurd (cc bad)))

  -- two lists that rise and have the same elements of each rank, in the same order, are the same
  pub unique : (ys zs : List X) → Rising ys → Rising zs → ((x : X) → filter (ties lt x) ys ≡ filter (ties lt x) zs) → ys ≡ zs
  unique [] [] ry rz same = refl
  unique [] (z ∷ zs) ry rz same = let e : [] ≡ z ∷ filter (ties lt z) zs = same z ∙ filter-yes (ties lt z) z zs (ties_itself z) in absurd (cc e)
  unique (y ∷ ys) [] ry rz same = let e : y ∷ filter (ties lt y) ys ≡ [] = sym (filter-yes (ties lt y) y ys (ties_itself y)) ∙ same y in absurd (cc e)
  unique (y ∷ ys) (z ∷ zs) ry rz same =
      let head = heads y z ys zs ry rz same in
      let tail = unique ys zs ry.1 rz.1 (λ x. tails (ties lt x) y z ys zs head (same x)) in
      ap (λ (x : X). x ∷ ys) head ∙ ap (λ (l : List X). z ∷ l) tail

  pub rising : (xs : List X) → IsSortedBy lt xs → Rising xs
  rising [] s = tt
  rising (x ∷ xs) s = (first, rising xs rest)
    where
      first : (y : X) → Among xs y → lt y x ≡ false
      first y m =
          let place = at_place xs y m in
          let within = slice_get_within xs place.0 y place.1 in
          subst (λ (z : X). lt z x ≡ false) (get_or_from_slice_get xs place.0 y y place.1)
          (sorted_far lt order (x ∷ xs) s 0 (suc place.0) y (omega arith) (omega (arith, within)))

      rest : IsSortedBy lt xs
      rest k d low high =
          let next : suc k + 1 ≡ suc (k + 1) = omega arith in
          subst (λ (n : ℕ). lt (get_or (x ∷ xs) n d) (get_or xs k d) ≡ false) next (s (suc k) d (omega arith) (omega (arith, high)))

module _ {X : Type 0} (key : X → List ℕ) where
  abbrev pub less : X → X → Bool
  less x y = is_before (key x) (key y)

  pub order : IsStrictWeakOrder less
  order = ranks_by nat_list_cmp_total key

  rising_placed : (x : X) (ys : List X) → Rising less order ys → Rising less order (placed key x ys)
  rising_placed x [] r = ((λ w m. absurd m), tt)
  rising_placed x (y ∷ ys) r = by_cases (less y x)
      (λ t. subst (λ (b : Bool). Rising less order (cond b (y ∷ placed key x ys) (x ∷ y ∷ ys))) (sym t) ((λ w m. after t w (from_placed key x ys w m)), rising_placed x ys r.1))
      (λ f. subst (λ (b : Bool). Rising less order (cond b (y ∷ placed key x ys) (x ∷ y ∷ ys))) (sym f) ((λ w m. here f w m), r))
    where
      after : less y x ≡ true → (w : X) → Among (x ∷ ys) w → less w y ≡ false
      after t w (inl e) = subst (λ (z : X). less z y ≡ false) (sym e) (order.one_way y x t)
      after t w (inr m) = r.0 w m

      here : less y x ≡ false → (w : X) → Among (y ∷ ys) w → less w x ≡ false
      here f w (inl e) = subst (λ (z : X). less z x ≡ false) (sym e) f
      here f w (inr m) = order.chain w y x (r.0 w m) f

  not_both : (w x y : X) → less y x ≡ true → ties less w y ≡ true → ties less w x ≡ false
  not_both w x y t a = by_cases (ties less w x)
      (λ b. let at_y = neither (less w y) (less y w) a in let at_x = neither (less w x) (less x w) b in
      let bad : true ≡ false = sym t ∙ order.chain y w x at_y.1 at_x.0 in absurd (cc bad))
      (λ b. b)

  swapped : (p : X → Bool) (x y : X) (ys : List X) → p y ≡ false → filter p (x ∷ ys) ≡ filter p (x ∷ y ∷ ys)
  swapped p x y ys a = by_cases (p x)
      (λ b. filter-yes p x ys b ∙ ap (λ (l : List X). x ∷ l) (sym (filter-no p y ys a)) ∙ sym (filter-yes p x (y ∷ ys) b))
      (λ b. filter-no p x ys b ∙ sym (filter-no p y ys a) ∙ sym (filter-no p x (y ∷ ys) b))

  stable_placed : (w x : X) (ys : List X) → filter (ties less w) (placed key x ys) ≡ filter (ties less w) (x ∷ ys)
  stable_placed w x [] = refl
  stable_placed w x (y ∷ ys) = by_cases (less y x)
      (λ t. ap (λ (b : Bool). filter (ties less w) (cond b (y ∷ placed key x ys) (x ∷ y ∷ ys))) t ∙ by_cases (ties less w y) (before (stable_placed w x ys) t) (beside (stable_placed w x ys) t))
      (λ f. ap (λ (b : Bool). filter (ties less w) (cond b (y ∷ placed key x ys) (x ∷ y ∷ ys))) f)
    where
      before : filter (ties less w) (placed key x ys) ≡ filter (ties less w) (x ∷ ys) → less y x ≡ true → ties less w y ≡ true → filter (ties less w) (y ∷ placed key x ys) ≡ filter (ties less w) (x ∷ y ∷ ys)
      before same t a =
          let b = not_both w x y t a in
          filter-yes (ties less w) y (placed key x ys) a ∙ ap (λ (l : List X). y ∷ l) (same ∙ filter-no (ties less w) x ys b) ∙ sym (filter-yes (ties less w) y ys a)
          ∙ sym (filter-no (ties less w) x (y ∷ ys) b)

      beside : filter (ties less w) (placed key x ys) ≡ filter (ties less w) (x ∷ ys) → less y x ≡ true → ties less w y ≡ false → filter (ties less w) (y ∷ placed key x ys) ≡ filter (ties less w) (x ∷ y ∷ ys)
      beside same t a = filter-no (ties less w) y (placed key x ys) a ∙ same ∙ swapped (ties less w) x y ys a

  rising_by_key : (xs : List X) → Rising less order (by_key key xs)
  rising_by_key [] = tt
  rising_by_key (x ∷ xs) = rising_placed x (by_key key xs) (rising_by_key xs)

  stable_by_key : (w : X) (xs : List X) → filter (ties less w) (by_key key xs) ≡ filter (ties less w) xs
  stable_by_key w [] = refl
  stable_by_key w (x ∷ xs) = stable_placed w x (by_key key xs) ∙ by_cases (ties less w x)
      (λ b. filter-yes (ties less w) x (by_key key xs) b ∙ ap (λ (l : List X). x ∷ l) (stable_by_key w xs) ∙ sym (filter-yes (ties less w) x xs b))
      (λ b. filter-no (ties less w) x (by_key key xs) b ∙ stable_by_key w xs ∙ sym (filter-no (ties less w) x xs b))

  -- what a stable sort gives
  pub sorted_is_by_key : (xs ys : List X) → IsSortedBy less ys → IsStableBy less xs ys → ys ≡ by_key key xs
  sorted_is_by_key xs ys sorted stable =
      unique less order ys (by_key key xs) (rising less order ys sorted) (rising_by_key xs) (λ x. stable x ∙ sym (stable_by_key x xs))
