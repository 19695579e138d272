-- How high services stand above those that they need, where these go in no circle.
use Rattle.std.proofs.Common.{◌≡◌, ◌∙◌, ℕ, zero, suc, ◌<◌, ◌≤◌, ◌&&◌, ◌||◌, Bool, true, false, cond, not, List, [], ◌∷◌, ◌++◌, length, map, refl, sym, ap, subst, inl, inr, arith}
use Rattle.std.specs.Prelude.{filter, max}
use Rattle.std.specs.Str.{bytes_eq}
use Rattle.std.proofs.lemmas.Slice.Eq.{bytes_eq-Decides}
use Rattle.attribute_scalars.specs.Walks.{is_in}
use Rattle.declared_laws.proofs.Firsts.{other_text}
use Rattle.run_model.specs.EngineRules.{Among}
use Rattle.run_model.proofs.Firsts.{flipped}
use Rattle.service_graph.specs.Cycles.{needs_at}
use Rattle.typed_project.specs.declared.service.Service.{Service}

-- the greatest of numbers
abbrev greatest : List ℕ → ℕ
greatest [] = 0
greatest (n ∷ ns) = max n (greatest ns)

at_most : (ns : List ℕ) (n : ℕ) → Among ns n → n ≤ greatest ns
at_most [] n m = absurd m
at_most (k ∷ ns) n (inl e) = omega (arith, e)
at_most (k ∷ ns) n (inr m) = let rest = at_most ns n m in omega (arith, rest)

mapped_same : {X Y : Type 0} (f g : X → Y) (xs : List X) → ((x : X) → Among xs x → f x ≡ g x) → map f xs ≡ map g xs
mapped_same f g [] same = refl
mapped_same f g (x ∷ xs) same = ap (λ y. y ∷ map f xs) (same x (inl refl)) ∙ ap (λ ys. g x ∷ ys) (mapped_same f g xs (λ y m. same y (inr m)))

mapped_there : {X Y : Type 0} (f : X → Y) (xs : List X) (x : X) → Among xs x → Among (map f xs) (f x)
mapped_there f [] x m = absurd m
mapped_there f (y ∷ ys) x (inl e) = inl (ap f e)
mapped_there f (y ∷ ys) x (inr m) = inr (mapped_there f ys x m)

-- one that isn't the key is among texts with the key where it is among the others
is_in_others : (before after : List (List ℕ)) (key one : List ℕ) → bytes_eq one key ≡ false → is_in (before ++ key ∷ after) one ≡ is_in (before ++ after) one
is_in_others [] after key one e = ap (λ b. b || is_in after one) e
is_in_others (t ∷ before) after key one e = ap (λ b. bytes_eq one t || b) (is_in_others before after key one e)

-- with one more text seen, as few are unseen or fewer
not_more : (keys seen : List (List ℕ)) (key : List ℕ) → length (filter (λ k. not (is_in (key ∷ seen) k)) keys) ≤ length (filter (λ k. not (is_in seen k)) keys)
not_more [] seen key = omega arith
not_more (k ∷ keys) seen key = at (bytes_eq k key) (is_in seen k) (not_more keys seen key)
  where
    at : (b c : Bool) → length (filter (λ t. not (is_in (key ∷ seen) t)) keys) ≤ length (filter (λ t. not (is_in seen t)) keys)
        → length (cond (not (b || c)) (k ∷ filter (λ t. not (is_in (key ∷ seen) t)) keys) (filter (λ t. not (is_in (key ∷ seen) t)) keys))
        ≤ length (cond (not c) (k ∷ filter (λ t. not (is_in seen t)) keys) (filter (λ t. not (is_in seen t)) keys))
    at true true l = l
    at true false l = omega (arith, l)
    at false true l = l
    at false false l = omega (arith, l)

-- and fewer where it was an unseen one
fewer : (keys seen : List (List ℕ)) (key : List ℕ) → is_in keys key ≡ true → is_in seen key ≡ false
    → length (filter (λ k. not (is_in (key ∷ seen) k)) keys) < length (filter (λ k. not (is_in seen k)) keys)
fewer [] seen key e f = absurd (cc e)
fewer (k ∷ keys) seen key e f = first (bytes_eq key k) refl e (fewer keys seen key)
  where
    at : (b c : Bool) → length (filter (λ t. not (is_in (key ∷ seen) t)) keys) < length (filter (λ t. not (is_in seen t)) keys)
        → length (cond (not (b || c)) (k ∷ filter (λ t. not (is_in (key ∷ seen) t)) keys) (filter (λ t. not (is_in (key ∷ seen) t)) keys))
        < length (cond (not c) (k ∷ filter (λ t. not (is_in seen t)) keys) (filter (λ t. not (is_in seen t)) keys))
    at true true l = l
    at true false l = omega (arith, l)
    at false true l = l
    at false false l = omega (arith, l)

    here : (b c : Bool) → b ≡ true → c ≡ false
        → length (cond (not (b || c)) (k ∷ filter (λ t. not (is_in (key ∷ seen) t)) keys) (filter (λ t. not (is_in (key ∷ seen) t)) keys))
        < length (cond (not c) (k ∷ filter (λ t. not (is_in seen t)) keys) (filter (λ t. not (is_in seen t)) keys))
    here true true g h = absurd (cc h)
    here true false g h = let rest = not_more keys seen key in omega (arith, rest)
    here false c g h = absurd (cc g)

    first : (b : Bool) → bytes_eq key k ≡ b → (b || is_in keys key) ≡ true
        → (is_in keys key ≡ true → is_in seen key ≡ false → length (filter (λ t. not (is_in (key ∷ seen) t)) keys) < length (filter (λ t. not (is_in seen t)) keys))
        → length (filter (λ t. not (is_in (key ∷ seen) t)) (k ∷ keys)) < length (filter (λ t. not (is_in seen t)) (k ∷ keys))
    first true g h rest =
        let same : key ≡ k = (bytes_eq-Decides key k).0 g in
        here (bytes_eq k key) (is_in seen k) (flipped key k true g) (ap (is_in seen) (sym same) ∙ f)
    first false g h rest = at (bytes_eq k key) (is_in seen k) (rest h f)

filter_within : {X : Type 0} (p : X → Bool) (xs : List X) → length (filter p xs) ≤ length xs
filter_within p [] = omega arith
filter_within p (x ∷ xs) = at (p x) (filter_within p xs)
  where
    at : (b : Bool) → length (filter p xs) ≤ length xs → length (cond b (x ∷ filter p xs) (filter p xs)) ≤ suc (length xs)
    at true l = omega (arith, l)
    at false l = omega (arith, l)

module _ (services : List Service) where
  abbrev pub keys : List (List ℕ)
  keys = map (λ (service : Service). service.key) services

  -- how high a service stands, among those that weren't seen, as far as so many steps tell
  abbrev height : ℕ → List (List ℕ) → List ℕ → ℕ
  height zero seen key = 0
  height (suc steps) seen key = cond (is_in keys key && not (is_in seen key)) (suc (greatest (map (height steps (key ∷ seen)) (needs_at services key)))) 0

  abbrev unseen : List (List ℕ) → ℕ
  unseen seen = length (filter (λ k. not (is_in seen k)) keys)

  -- each service of a way needs the next, and the last one a given one
  abbrev pub Leads : List ℕ → List ℕ → List (List ℕ) → Type 0
  Leads end key [] = Among (needs_at services key) end
  Leads end key (next ∷ more) = Among (needs_at services key) next × Leads end next more

  -- no way of fewer steps leads from a service to another
  abbrev Unreached : ℕ → List ℕ → List ℕ → Type 0
  Unreached zero key need = Unit {0}
  Unreached (suc steps) key need = (need ≡ key → ⊥) × ((more : List (List ℕ)) → length more < steps → Leads key need more → ⊥)

  next_unreached : (steps : ℕ) (key need next : List ℕ) → Unreached (suc steps) key need → Among (needs_at services need) next → Unreached steps key next
  next_unreached zero key need next u m = tt
  next_unreached (suc steps) key need next u m = (
    λ e. u.1 [] (omega arith) (subst (λ (t : List ℕ). Among (needs_at services need) t) e m),
    λ more l h. u.1 (next ∷ more) (omega (arith, l)) (m, h),
  )

  -- a service that isn't reached doesn't matter
  same_height : (steps : ℕ) (before after : List (List ℕ)) (key need : List ℕ) → Unreached steps key need → height steps (before ++ key ∷ after) need ≡ height steps (before ++ after) need
  same_height zero before after key need u = refl
  same_height (suc steps) before after key need u =
      ap (λ (b : Bool). cond (is_in keys need && not b) (suc (greatest (map (height steps (need ∷ before ++ (key ∷ after))) (needs_at services need)))) 0)
      (is_in_others before after key need (other_text need key u.0))
      ∙ ap (λ (ns : List ℕ). cond (is_in keys need && not (is_in (before ++ after) need)) (suc (greatest ns)) 0)
      (mapped_same (height steps (need ∷ before ++ (key ∷ after))) (height steps (need ∷ before ++ after)) (needs_at services need)
      (λ next m. same_height steps (need ∷ before) after key next (next_unreached steps key need next u m)))

  -- more steps than there are unseen services tell no more
  no_more : (steps : ℕ) (seen : List (List ℕ)) (key : List ℕ) → unseen seen ≤ steps → height steps seen key ≡ height (suc steps) seen key
  no_more zero seen key l = at (is_in keys key) (is_in seen key) refl refl
    where
      at : (b c : Bool) → is_in keys key ≡ b → is_in seen key ≡ c → 0 ≡ cond (b && not c) (suc (greatest (map (height 0 (key ∷ seen)) (needs_at services key)))) 0
      at true true g h = refl
      at true false g h = let less = fewer keys seen key g h in absurd (omega (arith, less, l))
      at false c g h = refl
  no_more (suc steps) seen key l = at (is_in keys key) (is_in seen key) refl refl (λ fits next. no_more steps (key ∷ seen) next fits)
    where
      at : (b c : Bool) → is_in keys key ≡ b → is_in seen key ≡ c
          → (unseen (key ∷ seen) ≤ steps → (next : List ℕ) → height steps (key ∷ seen) next ≡ height (suc steps) (key ∷ seen) next)
          → cond (b && not c) (suc (greatest (map (height steps (key ∷ seen)) (needs_at services key)))) 0
          ≡ cond (b && not c) (suc (greatest (map (height (suc steps) (key ∷ seen)) (needs_at services key)))) 0
      at true true g h rest = refl
      at true false g h rest =
          let less = fewer keys seen key g h in
          ap (λ (ns : List ℕ). suc (greatest ns))
          (mapped_same (height steps (key ∷ seen)) (height (suc steps) (key ∷ seen)) (needs_at services key) (λ next m. rest (omega (arith, less, l)) next))
      at false c g h rest = refl

  -- how high a service stands
  pub high : List ℕ → ℕ
  high key = height (length keys) [] key

  -- it stands higher than those that it needs, where no way of fewer steps than there are services leads back to it
  module _ (key : List ℕ) (there : is_in keys key ≡ true) (none : (more : List (List ℕ)) → length more < length keys → Leads key key more → ⊥)
      (need : List ℕ) (needed : Among (needs_at services key) need) where
    apart : (steps : ℕ) → steps ≤ length keys → Unreached steps key need
    apart zero l = tt
    apart (suc steps) l = (
      λ e. none [] (omega (arith, l)) (subst (λ (t : List ℕ). Among (needs_at services key) t) e needed),
      λ more h leads. none (need ∷ more) (omega (arith, l, h)) (needed, leads),
    )

    pub sinks : high need < high key
    unfolding high
    sinks =
        let steps = length keys in
        let all : height steps [] key ≡ height (suc steps) [] key = no_more steps [] key (filter_within (λ k. not (is_in [] k)) keys) in
        let own : height (suc steps) [] key ≡ suc (greatest (map (height steps (key ∷ [])) (needs_at services key))) =
        ap (λ (b : Bool). cond (b && true) (suc (greatest (map (height steps (key ∷ [])) (needs_at services key)))) 0) there in
        let low = at_most (map (height steps (key ∷ [])) (needs_at services key)) (height steps (key ∷ []) need) (mapped_there (height steps (key ∷ [])) (needs_at services key) need needed) in
        let same = same_height steps [] [] key need (apart steps (omega arith)) in
        omega (arith, all, own, low, same)
