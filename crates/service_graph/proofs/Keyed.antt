-- The places of services stand for their keys.
use Rattle.std.proofs.Common.{◌≡◌, ℕ, zero, suc, ◌+◌, ◌<◌, Bool, true, false, cond, ltb, List, [], ◌∷◌, ◌++◌, Some, None, length, map, get_or, refl, ap, sym, ◌∙◌, subst, arith, append-nil, eq-eqb, eqb-true, lt-ltb}
use Rattle.std.specs.Prelude.{◌||◌, ◌==◌, Option, filter_map, find, slice_get, unwrap_or, option_map}
use Rattle.std.specs.List.{cons_option, list_any, range_with_len, position_from, position_or_len}
use Rattle.std.specs.Option.{option_map_or, option_or}
use Rattle.std.specs.Str.{bytes_eq}
use Rattle.std.proofs.lemmas.Iterator.Adapters.{position_from-zero}
use Rattle.std.proofs.lemmas.List.{length-map, map-append}
use Rattle.std.proofs.lemmas.List.Sums.{position_or_len_is}
use Rattle.std.proofs.lemmas.Option.{get_or_from_slice_get, slice_get-map, slice_get_within}
use Rattle.std.proofs.lemmas.Slice.Eq.{bytes_eq-Decides}
use Rattle.attribute_types.specs.declared.rows.Dependency.{Dependency}
use Rattle.typed_project.specs.declared.service.Service.{Service}
use Rattle.service_graph.specs.Cycles.{circle_of, circle_through, closes, dependencies_of, first_of, last_of, needs_at, service_at, ways}
use Rattle.service_graph.specs.Places.{AreWithin, first_back, key_at, keys_on, last_place, leads_back, links_of, next_of, place_of, place_ways, places_of, way_back}
use Rattle.service_graph.proofs.Steps as steps

-- what a search from a number on finds is found
pub found_place : {X : Type 0} (t : X → Bool) (i : ℕ) (xs : List X) (p : ℕ) → position_from t i xs ≡ Some p → (k : ℕ) × (x : X) × (p ≡ i + k) × (slice_get xs k ≡ Some x) × (t x ≡ true) × (find t xs ≡ Some x)
found_place t i [] p e = absurd (cc e)
found_place {X} t i (x ∷ xs) p e = at (t x) refl (found_place t (i + 1) xs p) e
  where
    at : (b : Bool) → t x ≡ b
        → (position_from t (i + 1) xs ≡ Some p → (k : ℕ) × (y : X) × (p ≡ i + 1 + k) × (slice_get xs k ≡ Some y) × (t y ≡ true) × (find t xs ≡ Some y))
        → cond b (Some i) (position_from t (i + 1) xs) ≡ Some p
        → (k : ℕ) × (y : X) × (p ≡ i + k) × (slice_get (x ∷ xs) k ≡ Some y) × (t y ≡ true) × (cond b (Some x) (find t xs) ≡ Some y)
    at true so more f = let same : i ≡ p = cc f in (0, x, omega (arith, same), refl, so, refl)
    at false so more f = let m = more f in let e : p ≡ i + 1 + m.0 = m.2 in (suc m.0, m.1, omega (arith, e), m.3, m.4, m.5)

pub no_place : {X : Type 0} (t : X → Bool) (i : ℕ) (xs : List X) → position_from t i xs ≡ None → find t xs ≡ None
no_place t i [] e = refl
no_place t i (x ∷ xs) e = at (t x) (no_place t (i + 1) xs) e
  where
    at : (b : Bool) → (position_from t (i + 1) xs ≡ None → find t xs ≡ None) → cond b (Some i) (position_from t (i + 1) xs) ≡ None → cond b (Some x) (find t xs) ≡ None
    at true so f = absurd (cc f)
    at false so f = so f

filter_map-map : {X Y Z : Type 0} (h : Y → Option Z) (f : X → Y) (xs : List X) → filter_map (λ x. h (f x)) xs ≡ filter_map h (map f xs)
filter_map-map h f [] = refl
filter_map-map {X} {Y} {Z} h f (x ∷ xs) = at (h (f x)) (filter_map-map h f xs)
  where
    at : (o : Option Z) → filter_map (λ x. h (f x)) xs ≡ filter_map h (map f xs) → cons_option o (filter_map (λ x. h (f x)) xs) ≡ cons_option o (filter_map h (map f xs))
    at o e = ap (cons_option o) e

first_of-map : {X Y Z : Type 0} (g : Y → Z) (f : X → Option Y) (h : X → Option Z) (xs : List X) → ((x : X) → h x ≡ option_map g (f x)) → first_of (map h xs) ≡ option_map g (first_of (map f xs))
first_of-map g f h [] same = refl
first_of-map {X} {Y} {Z} g f h (x ∷ xs) same = ap (λ (o : Option Z). option_or o (first_of (map h xs))) (same x) ∙ at (f x) (first_of-map g f h xs same)
  where
    at : (o : Option Y) → first_of (map h xs) ≡ option_map g (first_of (map f xs)) → option_or (option_map g o) (first_of (map h xs)) ≡ option_map g (option_or o (first_of (map f xs)))
    at None e = e
    at (Some y) e = refl

-- of a list and of the numbers of its items
pub first_of-numbers : {X Y Z : Type 0} (g : Y → Z) (f : ℕ → Option Y) (h : X → Option Z) (a : ℕ) (xs : List X) → ((k : ℕ) (x : X) → slice_get xs k ≡ Some x → h x ≡ option_map g (f (a + k)))
    → first_of (map h xs) ≡ option_map g (first_of (map f (range_with_len a (length xs))))
first_of-numbers g f h a [] same = refl
first_of-numbers {X} {Y} {Z} g f h a (x ∷ xs) same =
    ap (λ (o : Option Z). option_or o (first_of (map h xs))) (same 0 x refl ∙ (let e : a + 0 ≡ a = omega arith in ap (λ n. option_map g (f n)) e))
    ∙ at (f a) (first_of-numbers g f h (a + 1) xs (λ k y e. same (suc k) y e ∙ (let m : a + suc k ≡ a + 1 + k = omega arith in ap (λ n. option_map g (f n)) m)))
  where
    at : (o : Option Y) → first_of (map h xs) ≡ option_map g (first_of (map f (range_with_len (a + 1) (length xs))))
        → option_or (option_map g o) (first_of (map h xs)) ≡ option_map g (option_or o (first_of (map f (range_with_len (a + 1) (length xs)))))
    at None e = e
    at (Some y) e = refl

-- services have different keys
abbrev pub AreApart : List Service → Type 0
AreApart services = (i j : ℕ) (d : Service) → i < j → j < length services → bytes_eq (get_or services i d).key (get_or services j d).key ≡ false

module _ (services : List Service) (apart : AreApart services) where
  abbrev is : List ℕ → Service → Bool
  is key service = bytes_eq service.key key

  place_from : (key : List ℕ) → place_of services key ≡ position_from (is key) 0 services
  place_from key = position_from-zero (is key) services

  -- a service is found at its own place
  pub own_place : (place : ℕ) (service : Service) → slice_get services place ≡ Some service → place_of services service.key ≡ Some place
  own_place place service e =
      let within : place < length services = slice_get_within services place service e in
      let here : get_or services place service ≡ service = get_or_from_slice_get services place service service e in
      let at : position_or_len (is service.key) services ≡ place =
      position_or_len_is (is service.key) services place service (omega (arith, within))
      (λ k l. ap (λ (s : Service). bytes_eq (get_or services k service).key s.key) (sym here) ∙ apart k place service l within)
      (λ _. ap (λ (s : Service). bytes_eq s.key service.key) here ∙ (bytes_eq-Decides service.key service.key).1 refl) in
      let low : ltb place (length services) ≡ true = lt-ltb place (length services) within in
      ap (λ n. cond (ltb n (length services)) (Some n) None) at ∙ ap (λ b. cond b (Some place) None) low

  pub place_is : (key : List ℕ) (place : ℕ) → place_of services key ≡ Some place → (service : Service) × (slice_get services place ≡ Some service) × (service.key ≡ key) × (service_at services key ≡ Some service)
  place_is key place e =
      let f = found_place (is key) 0 services place (sym (place_from key) ∙ e) in
      let n : place ≡ f.0 = (let z : place ≡ 0 + f.0 = f.2 in omega (arith, z)) in
      (f.1, ap (slice_get services) n ∙ f.3, (bytes_eq-Decides f.1.key key).0 f.4, f.5)

  pub not_there : (key : List ℕ) → place_of services key ≡ None → needs_at services key ≡ []
  not_there key e = ap (λ (o : Option Service). option_map_or (λ service. map (λ (need : Dependency). need.key) (dependencies_of service)) o []) (no_place (is key) 0 services (sym (place_from key) ∙ e))

  among : {A : Type 0} (h : A → Option ℕ) (n : ℕ) → ((x : A) (y : ℕ) → h x ≡ Some y → y < n) → (xs : List A) (k y : ℕ) → k < length (filter_map h xs) → get_or (filter_map h xs) k y ≡ y → y < n
  among h n low [] k y l e = absurd (omega (arith, l))
  among {A} h n low (x ∷ xs) k y l e = at (h x) refl (among h n low xs) k l e
    where
      at : (o : Option ℕ) → h x ≡ o → ((j z : ℕ) → j < length (filter_map h xs) → get_or (filter_map h xs) j z ≡ z → z < n)
          → (j : ℕ) → j < length (cons_option o (filter_map h xs)) → get_or (cons_option o (filter_map h xs)) j y ≡ y → y < n
      at None f so j m g = so j y m g
      at (Some z) f so zero m g = low x y (f ∙ ap (λ (v : ℕ). Some v) g)
      at (Some z) f so (suc j) m g = so j y (omega (arith, m)) g

  -- each place that is linked is one of a service
  pub links_within : AreWithin (links_of services)
  links_within from to c = at (slice_get services from) refl
    where
      size : length (links_of services) ≡ length services
      size = length-map services (places_of services)

      low : (need : Dependency) (place : ℕ) → place_of services need.key ≡ Some place → place < length services
      low need place e = let h = place_is need.key place e in slice_get_within services place h.0 h.1

      seen : next_of (links_of services) from ≡ unwrap_or (option_map (places_of services) (slice_get services from)) []
      seen = ap (λ (o : Option (List ℕ)). unwrap_or o []) (slice_get-map (places_of services) services from)

      at : (o : Option Service) → slice_get services from ≡ o → to < length (links_of services)
      at None e =
          let none : next_of (links_of services) from ≡ [] = seen ∙ ap (λ (o : Option Service). unwrap_or (option_map (places_of services) o) []) e in
          let l : c.0 < length (next_of (links_of services) from) = c.1 in
          let n : length (next_of (links_of services) from) ≡ 0 = ap (λ (xs : List ℕ). length xs) none in absurd (omega (arith, l, n))
      at (Some service) e =
          let some : next_of (links_of services) from ≡ places_of services service = seen ∙ ap (λ (o : Option Service). unwrap_or (option_map (places_of services) o) []) e in
          let l : c.0 < length (places_of services service) = subst (λ (xs : List ℕ). c.0 < length xs) some c.1 in
          let g : get_or (places_of services service) c.0 to ≡ to = subst (λ (xs : List ℕ). get_or xs c.0 to ≡ to) some c.2 in
          let m : to < length services = among (λ (need : Dependency). place_of services need.key) (length services) low (dependencies_of service) c.0 to l g in
          omega (arith, m, size)

  -- what the service at a place needs
  abbrev pub needs_of : Service → List (List ℕ)
  needs_of service = map (λ (need : Dependency). need.key) (dependencies_of service)

  pub needs_here : (place : ℕ) (service : Service) → slice_get services place ≡ Some service → needs_at services service.key ≡ needs_of service
  needs_here place service e =
      let f = place_is service.key place (own_place place service e) in
      let same : f.0 ≡ service = some_same (sym f.1 ∙ e) in
      ap (λ (o : Option Service). option_map_or needs_of o []) (f.3 ∙ ap (λ (s : Service). Some s) same)
    where
      some_same : {x y : Service} → Some x ≡ Some y → x ≡ y
      some_same h = cc h

  pub next_here : (place : ℕ) (service : Service) → slice_get services place ≡ Some service → next_of (links_of services) place ≡ filter_map (place_of services) (needs_of service)
  next_here place service e =
      ap (λ (o : Option (List ℕ)). unwrap_or o []) (slice_get-map (places_of services) services place ∙ ap (option_map (places_of services)) e)
      ∙ filter_map-map (place_of services) (λ (need : Dependency). need.key) (dependencies_of service)

  key_here : (place : ℕ) (service : Service) → slice_get services place ≡ Some service → key_at services place ≡ service.key
  key_here place service e = ap (λ (o : Option Service). option_map_or (λ s. s.key) o []) e

  module _ (start : ℕ) (first : Service) (begins : slice_get services start ≡ Some first) where
    abbrev closing : List ℕ → Bool
    closing key = list_any (bytes_eq first.key) (needs_at services key)

    abbrev leading : ℕ → Bool
    leading place = list_any (λ next. next == start) (next_of (links_of services) place)

    abbrev by_keys : ℕ → List (List (List ℕ)) → Option (List (List ℕ))
    by_keys = steps.found [] (needs_at services) closing

    abbrev by_places : ℕ → List (List ℕ) → Option (List ℕ)
    by_places = steps.found 0 (next_of (links_of services)) leading

    missing_back : (count : ℕ) (key : List ℕ) → needs_at services key ≡ [] → steps.back [] (needs_at services) closing count key ≡ false
    missing_back zero key e = ap (list_any (bytes_eq first.key)) e
    missing_back (suc count) key e = ap (list_any (steps.back [] (needs_at services) closing count)) e

    one_same : (key : List ℕ) (o : Option ℕ) → place_of services key ≡ o → (rest : List ℕ)
        → (bytes_eq first.key key || list_any (λ next. next == start) rest) ≡ list_any (λ next. next == start) (cons_option o rest)
    one_same key None e rest =
        ap (λ b. b || list_any (λ next. next == start) rest) (at (bytes_eq first.key key) refl)
      where
        at : (b : Bool) → bytes_eq first.key key ≡ b → bytes_eq first.key key ≡ false
        at false f = f
        at true f =
            let same : first.key ≡ key = (bytes_eq-Decides first.key key).0 f in
            let bad : Some start ≡ None = sym (own_place start first begins) ∙ ap (place_of services) same ∙ e in absurd (cc bad)
    one_same key (Some place) e rest = ap (λ b. b || list_any (λ next. next == start) rest) (at (bytes_eq first.key key) refl (place == start) refl)
      where
        at : (b : Bool) → bytes_eq first.key key ≡ b → (c : Bool) → (place == start) ≡ c → bytes_eq first.key key ≡ (place == start)
        at true f true g = f ∙ sym g
        at false f false g = f ∙ sym g
        at true f false g =
            let same : first.key ≡ key = (bytes_eq-Decides first.key key).0 f in
            let both : Some start ≡ Some place = sym (own_place start first begins) ∙ ap (place_of services) same ∙ e in
            let n : place ≡ start = cc both in
            let bad : true ≡ false = sym (eq-eqb place start n) ∙ g in absurd (cc bad)
        at false f true g =
            let n : place ≡ start = eqb-true place start g in
            let h = place_is key place e in
            let both : Some h.0 ≡ Some first = sym h.1 ∙ ap (slice_get services) n ∙ begins in
            let s : h.0 ≡ first = cc both in
            let k : first.key ≡ key = ap (λ (t : Service). t.key) (sym s) ∙ h.2 in
            let bad : true ≡ false = sym ((bytes_eq-Decides first.key key).1 k) ∙ f in absurd (cc bad)

    any_same : (keys : List (List ℕ)) → list_any (bytes_eq first.key) keys ≡ list_any (λ next. next == start) (filter_map (place_of services) keys)
    any_same [] = refl
    any_same (key ∷ keys) = ap (λ b. bytes_eq first.key key || b) (any_same keys) ∙ one_same key (place_of services key) refl (filter_map (place_of services) keys)

    keys_step : (way : List ℕ) (place : ℕ) → keys_on services (way ++ place ∷ []) ≡ keys_on services way ++ key_at services place ∷ []
    keys_step way place = map-append (key_at services) way (place ∷ [])

    -- what is found from a way of places on is what is found from that of their keys on
    abbrev Same : ℕ → Type 0
    Same count = (way : List ℕ) (place : ℕ) (service : Service) → slice_get services place ≡ Some service
        → by_keys count (keys_on services (way ++ place ∷ []) ∷ []) ≡ option_map (keys_on services) (by_places count ((way ++ place ∷ []) ∷ []))

    joined : (a : Option (List ℕ)) (b : Option (List ℕ)) → option_or (option_map (keys_on services) a) (option_map (keys_on services) b) ≡ option_map (keys_on services) (option_or a b)
    joined None b = refl
    joined (Some x) b = refl

    each_same : (count : ℕ) → Same count → (way : List ℕ) (needs : List (List ℕ))
        → by_keys count (map (λ need. keys_on services way ++ need ∷ []) needs) ≡ option_map (keys_on services) (by_places count (map (λ next. way ++ next ∷ []) (filter_map (place_of services) needs)))
    each_same count same way [] =
        ap (find (steps.closes [] (needs_at services) closing)) (steps.on-nil [] (needs_at services) closing count)
        ∙ sym (ap (λ l. option_map (keys_on services) (find (steps.closes 0 (next_of (links_of services)) leading) l)) (steps.on-nil 0 (next_of (links_of services)) leading count))
    each_same count same way (need ∷ needs) =
        steps.found-cons [] (needs_at services) closing count (keys_on services way ++ need ∷ []) (map (λ need. keys_on services way ++ need ∷ []) needs)
        ∙ at (place_of services need) refl (each_same count same way needs)
      where
        at : (o : Option ℕ) → place_of services need ≡ o
            → by_keys count (map (λ need. keys_on services way ++ need ∷ []) needs) ≡ option_map (keys_on services) (by_places count (map (λ next. way ++ next ∷ []) (filter_map (place_of services) needs)))
            → option_or (by_keys count ((keys_on services way ++ need ∷ []) ∷ [])) (by_keys count (map (λ need. keys_on services way ++ need ∷ []) needs))
            ≡ option_map (keys_on services) (by_places count (map (λ next. way ++ next ∷ []) (cons_option o (filter_map (place_of services) needs))))
        at None e rest =
            ap (λ (p : Option (List (List ℕ))). option_or p (by_keys count (map (λ need. keys_on services way ++ need ∷ []) needs)))
            (steps.alone [] (needs_at services) closing count (keys_on services way ++ need ∷ [])
            (ap (steps.back [] (needs_at services) closing count) (steps.last_step [] (needs_at services) closing (keys_on services way) need) ∙ missing_back count need (not_there need e)))
            ∙ rest
        at (Some place) e rest =
            let h = place_is need place e in
            let k : need ≡ key_at services place = sym (key_here place h.0 h.1 ∙ h.2) in
            ap (λ (p : Option (List (List ℕ))). option_or p (by_keys count (map (λ need. keys_on services way ++ need ∷ []) needs)))
            (ap (λ (name : List ℕ). by_keys count ((keys_on services way ++ name ∷ []) ∷ [])) k
            ∙ ap (λ (w : List (List ℕ)). by_keys count (w ∷ [])) (sym (keys_step way place)) ∙ same way place h.0 h.1)
            ∙ ap (option_or (option_map (keys_on services) (by_places count ((way ++ place ∷ []) ∷ [])))) rest
            ∙ joined (by_places count ((way ++ place ∷ []) ∷ [])) (by_places count (map (λ next. way ++ next ∷ []) (filter_map (place_of services) needs)))
            ∙ sym (ap (option_map (keys_on services)) (steps.found-cons 0 (next_of (links_of services)) leading count (way ++ place ∷ []) (map (λ next. way ++ next ∷ []) (filter_map (place_of services) needs))))

    last_key : (way : List ℕ) (place : ℕ) (service : Service) → slice_get services place ≡ Some service → needs_at services (last_of (keys_on services (way ++ place ∷ []))) ≡ needs_of service
    last_key way place service e =
        ap (λ w. needs_at services (last_of w)) (keys_step way place)
        ∙ ap (needs_at services) (steps.last_step [] (needs_at services) closing (keys_on services way) (key_at services place) ∙ key_here place service e)
        ∙ needs_here place service e

    last_next : (way : List ℕ) (place : ℕ) (service : Service) → slice_get services place ≡ Some service → next_of (links_of services) (last_place (way ++ place ∷ [])) ≡ filter_map (place_of services) (needs_of service)
    last_next way place service e =
        ap (next_of (links_of services)) (steps.last_step 0 (next_of (links_of services)) leading way place) ∙ next_here place service e

    pub same_found : (count : ℕ) → Same count
    same_found zero way place service e =
        ap (λ b. cond b (Some (keys_on services (way ++ place ∷ []))) None) shut
        ∙ at (leading (last_place (way ++ place ∷ [])))
      where
        shut : closing (last_of (keys_on services (way ++ place ∷ []))) ≡ leading (last_place (way ++ place ∷ []))
        shut = ap (list_any (bytes_eq first.key)) (last_key way place service e) ∙ any_same (needs_of service) ∙ sym (ap (list_any (λ next. next == start)) (last_next way place service e))

        at : (b : Bool) → cond b (Some (keys_on services (way ++ place ∷ []))) None ≡ option_map (keys_on services) (cond b (Some (way ++ place ∷ [])) None)
        at true = refl
        at false = refl
    same_found (suc count) way place service e =
        ap (by_keys count) (append-nil (map (λ need. keys_on services (way ++ place ∷ []) ++ need ∷ []) (needs_at services (last_of (keys_on services (way ++ place ∷ []))))))
        ∙ ap (λ needs. by_keys count (map (λ need. keys_on services (way ++ place ∷ []) ++ need ∷ []) needs)) (last_key way place service e)
        ∙ each_same count (same_found count) (way ++ place ∷ []) (needs_of service)
        ∙ sym (ap (λ l. option_map (keys_on services) (by_places count l))
        (append-nil (map (λ next. (way ++ place ∷ []) ++ next ∷ []) (next_of (links_of services) (last_place (way ++ place ∷ []))))
        ∙ ap (map (λ next. (way ++ place ∷ []) ++ next ∷ [])) (last_next way place service e)))

    key_ways : (more count : ℕ) → ways services first.key (count + more) ≡ steps.on [] (needs_at services) closing more (ways services first.key count)
    key_ways zero count = let e : count + 0 ≡ count = omega arith in ap (ways services first.key) e
    key_ways (suc more) count = let e : count + suc more ≡ suc count + more = omega arith in ap (ways services first.key) e ∙ key_ways more (suc count)

    number_ways : (more count : ℕ) → place_ways (links_of services) start (count + more) ≡ steps.on 0 (next_of (links_of services)) leading more (place_ways (links_of services) start count)
    number_ways zero count = let e : count + 0 ≡ count = omega arith in ap (place_ways (links_of services) start) e
    number_ways (suc more) count = let e : count + suc more ≡ suc count + more = omega arith in ap (place_ways (links_of services) start) e ∙ number_ways more (suc count)

    pub circle_same : (count : ℕ) → circle_of services first.key count ≡ option_map (keys_on services) (find (leads_back (links_of services) start) (place_ways (links_of services) start count))
    circle_same count =
        let z : 0 + count ≡ count = omega arith in
        let k : key_at services start ≡ first.key = key_here start first begins in
        ap (λ n. find (closes services first.key) (ways services first.key n)) (sym z)
        ∙ ap (find (closes services first.key)) (key_ways count 0)
        ∙ ap (λ (name : List ℕ). by_keys count ((name ∷ []) ∷ [])) (sym k)
        ∙ same_found count [] start first begins
        ∙ sym (ap (λ l. option_map (keys_on services) (find (leads_back (links_of services) start) l)) (number_ways count 0))
        ∙ ap (λ n. option_map (keys_on services) (find (leads_back (links_of services) start) (place_ways (links_of services) start n))) z

    -- the circle through a service is the way back to its place
    pub through_same : circle_through services first.key ≡ option_map (keys_on services) (way_back (links_of services) start)
    through_same =
        first_of-map (keys_on services) (λ count. find (leads_back (links_of services) start) (place_ways (links_of services) start count)) (circle_of services first.key)
        (range_with_len 0 (length services)) circle_same
        ∙ ap (λ n. option_map (keys_on services) (first_of (map (λ count. find (leads_back (links_of services) start) (place_ways (links_of services) start count)) (range_with_len 0 n))))
        (sym (length-map services (places_of services)))

  -- the first circle through a service is the first way back to a place
  pub first_same : first_of (map (λ (service : Service). circle_through services service.key) services) ≡ option_map (keys_on services) (first_back (links_of services))
  first_same =
      first_of-numbers (keys_on services) (way_back (links_of services)) (λ (service : Service). circle_through services service.key) 0 services
      (λ k service e. through_same k service e ∙ (let z : k ≡ 0 + k = omega arith in ap (λ n. option_map (keys_on services) (way_back (links_of services) n)) z))
      ∙ ap (λ n. option_map (keys_on services) (first_of (map (way_back (links_of services)) (range_with_len 0 n)))) (sym (length-map services (places_of services)))
