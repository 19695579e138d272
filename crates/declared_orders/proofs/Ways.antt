-- Where no circle is told, no way of fewer steps than there are services leads back to where it began.
use Rattle.std.proofs.Common.{◌≡◌, ◌∙◌, ℕ, zero, suc, ◌+◌, ◌<◌, ◌≤◌, ◌==◌, Bool, true, false, cond, List, [], ◌∷◌, ◌++◌, Option, Some, None, length, map, refl, sym, ap, subst, inl, inr, arith}
use Rattle.std.specs.Prelude.{find, unwrap_or}
use Rattle.std.specs.List.{last_or, range_with_len}
use Rattle.std.specs.Option.{option_or}
use Rattle.std.specs.Str.{bytes_eq}
use Rattle.std.proofs.lemmas.Bool.{eqb-false, eqb-true}
use Rattle.std.proofs.lemmas.List.{length-map}
use Rattle.declared_laws.proofs.Ascending.{any_of}
use Rattle.declared_laws.proofs.Firsts.{same_text}
use Rattle.run_model.specs.EngineRules.{Among}
use Rattle.run_model.proofs.DistinctLists.{among_by_key, among_flat_map, among_map}
use Rattle.service_graph.specs.Cycles.{circle_of, circle_through, closes, cycle, first_of, last_of, needs_at, steps_from, ways}
use Rattle.tree_base.specs.ByteOrder.{by_key}
use Rattle.typed_project.specs.declared.service.Service.{Service}
use Rattle.declared_orders.proofs.Heights.{Leads, keys}

or_none : {X : Type 0} (a b : Option X) → option_or a b ≡ None → (a ≡ None) × (b ≡ None)
or_none None b e = (refl, e)
or_none (Some x) b e = absurd (cc e)

-- where the first that is given is none, none is
all_none : {X : Type 0} (all : List (Option X)) (one : Option X) → first_of all ≡ None → Among all one → one ≡ None
all_none [] one e m = absurd m
all_none (other ∷ all) one e (inl same) = same ∙ (or_none other (first_of all) e).0
all_none (other ∷ all) one e (inr m) = all_none all one (or_none other (first_of all) e).1 m

-- where none is found, none passes
none_found : {X : Type 0} (p : X → Bool) (xs : List X) (x : X) → find p xs ≡ None → Among xs x → p x ≡ true → ⊥
none_found p [] x e m h = m
none_found p (y ∷ ys) x e m h = at (p y) refl e m (none_found p ys x)
  where
    at : (b : Bool) → p y ≡ b → cond b (Some y) (find p ys) ≡ None → Among (y ∷ ys) x → (find p ys ≡ None → Among ys x → p x ≡ true → ⊥) → ⊥
    at true g f n rest = cc f
    at false g f (inl same) rest = let bad : false ≡ true = sym g ∙ ap p (sym same) ∙ h in cc bad
    at false g f (inr n) rest = rest f n h

range_there : (a n k : ℕ) → a ≤ k → k < a + n → Among (range_with_len a n) k
range_there a zero k l h = absurd (omega (arith, l, h))
range_there a (suc n) k l h = at (a == k) refl (range_there (a + 1) n k)
  where
    at : (b : Bool) → (a == k) ≡ b → (a + 1 ≤ k → k < a + 1 + n → Among (range_with_len (a + 1) n) k) → Among (a ∷ range_with_len (a + 1) n) k
    at true e rest = inl (sym (eqb-true a k e))
    at false e rest = let other = eqb-false a k e in inr (rest (omega (arith, l, other)) (omega (arith, h)))

last_behind : {X : Type 0} (o : Option X) (xs : List X) (x : X) → last_or o (xs ++ x ∷ []) ≡ Some x
last_behind o [] x = refl
last_behind o (y ∷ xs) x = last_behind (Some y) xs x

module _ (services : List Service) where
  -- each way is among the ways of its steps
  way_there : (key : List ℕ) (count : ℕ) (at : List ℕ) (more : List (List ℕ)) (end : List ℕ) (way : List (List ℕ)) → Among (ways services key count) way → last_of way ≡ at → Leads services end at more
      → (whole : List (List ℕ)) × Among (ways services key (count + length more)) whole × Among (needs_at services (last_of whole)) end
  way_there key count at [] end way m e leads =
      let same : count ≡ count + 0 = omega arith in
      (way, subst (λ (n : ℕ). Among (ways services key n) way) same m, subst (λ (t : List ℕ). Among (needs_at services t) end) (sym e) leads)
  way_there key count at (next ∷ more) end way m e leads =
      let needed = subst (λ (t : List ℕ). Among (needs_at services t) next) (sym e) leads.0 in
      let longer = among_flat_map (steps_from services) (ways services key count) way (way ++ next ∷ []) m (among_map (λ (need : List ℕ). way ++ need ∷ []) (needs_at services (last_of way)) next needed) in
      let r = way_there key (suc count) next more end (way ++ next ∷ []) longer (ap (λ (o : Option (List ℕ)). unwrap_or o []) (last_behind None way next)) leads.1 in
      let same : suc count + length more ≡ count + suc (length more) = omega arith in
      (r.0, subst (λ (n : ℕ). Among (ways services key n) r.0) same r.1, r.2)

  pub no_way_back : cycle services ≡ None → (service : Service) → Among services service → (more : List (List ℕ)) → length more < length (keys services) → Leads services service.key service.key more → ⊥
  no_way_back e service m more l leads =
      let sorted = by_key (λ (s : Service). s.key) services in
      let through = all_none (map (λ (s : Service). circle_through services s.key) sorted) (circle_through services service.key) e
      (among_map (λ (s : Service). circle_through services s.key) sorted service (among_by_key (λ (s : Service). s.key) services service m)) in
      let many = length-map services (λ (s : Service). s.key) in
      let of = all_none (map (circle_of services service.key) (range_with_len 0 (length services))) (circle_of services service.key (length more)) through
      (among_map (circle_of services service.key) (range_with_len 0 (length services)) (length more) (range_there 0 (length services) (length more) (omega arith) (omega (arith, l, many)))) in
      let r = way_there service.key 0 service.key more service.key (service.key ∷ []) (inl refl) refl leads in
      let same : 0 + length more ≡ length more = omega arith in
      none_found (closes services service.key) (ways services service.key (length more)) r.0 of (subst (λ (n : ℕ). Among (ways services service.key n) r.0) same r.1)
      (any_of (bytes_eq service.key) (needs_at services (last_of r.0)) service.key r.2 (same_text service.key))
