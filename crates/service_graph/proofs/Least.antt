-- The circle that is told is the least of all.
use Rattle.std.proofs.Common.{◌≡◌, ◌⊎◌, ℕ, zero, suc, ◌+◌, ◌<◌, ◌≤◌, Bool, true, false, cond, List, [], ◌∷◌, ◌++◌, Some, None, length, map, get_or, refl, ap, sym, ◌∙◌, subst, arith, inl, inr, append_assoc, append-nil}
use Rattle.std.specs.Prelude.{◌||◌, Option, find, option_map, slice_get}
use Rattle.std.specs.Cmp.Lexicographic.{slice_cmp}
use Rattle.std.specs.List.{AllByRecursion, Contains, IsDistinct, list_any}
use Rattle.std.specs.Option.{option_map_or, option_or}
use Rattle.std.specs.Ordering.{is_lt, nat_cmp, ordering_reverse, ordering_then}
use Rattle.std.specs.Str.{bytes_eq}
use Rattle.std.specs.declared.cmp.Ordering.{Ordering}
use Rattle.std.specs.declared.cmp.Ordering.TheVariants.{Less, Equal, Greater}
use Rattle.std.proofs.lemmas.Cmp.{nat_list_cmp_total, tied_itself}
use Rattle.std.proofs.lemmas.List.{get_or-map, length-map}
use Rattle.std.proofs.lemmas.Map.Keys.{apart_from_distinct}
use Rattle.std.proofs.lemmas.Option.{slice_get_within}
use Rattle.std.proofs.lemmas.Slice.Eq.{bytes_eq-Decides}
use Rattle.tree_base.specs.ByteOrder.{IsAscending, by_key, is_before, placed}
use Rattle.attribute_types.specs.declared.rows.Dependency.{Dependency}
use Rattle.typed_project.specs.declared.service.Service.{Service}
use Rattle.service_graph.specs.Cycles.{circle_of, circle_through, closes, cycle, dependencies_of, first_of, needs_at, ways}
use Rattle.service_graph.specs.Laws.{IsCircle, IsLeastCircle, IsNotBefore, IsToldCircle, LeadsTo, NeedsAreInOrder, first_key}
use Rattle.service_graph.specs.Places.{keys_on, leads_back, links_of, place_of, place_ways, places_of, way_back}
use Rattle.service_graph.proofs.Counting.{never_back}
use Rattle.service_graph.proofs.Keyed as keyed
use Rattle.service_graph.proofs.Lists.{below_or, none_were, which_given}
use Rattle.service_graph.proofs.Ordered.{not_after, rest_ascends}
use Rattle.service_graph.proofs.Steps as steps
use Rattle.service_graph.proofs.Walks as walks

all_at : {X : Type 0} (P : X → Type 0) (xs : List X) (k : ℕ) (y : X) → k < length xs → get_or xs k y ≡ y → AllByRecursion P xs → P y
all_at P [] k y l e all = absurd (omega (arith, l))
all_at P (x ∷ xs) zero y l e all = subst P e all.0
all_at P (x ∷ xs) (suc k) y l e all = all_at P xs k y (omega (arith, l)) e all.1

any_at : {X : Type 0} (p : X → Bool) (xs : List X) (k : ℕ) (y : X) → k < length xs → get_or xs k y ≡ y → p y ≡ true → list_any p xs ≡ true
any_at p [] k y l e t = absurd (omega (arith, l))
any_at p (x ∷ xs) zero y l e t = ap (λ b. b || list_any p xs) (ap p e ∙ t)
any_at p (x ∷ xs) (suc k) y l e t = or_true (p x) (list_any p xs) (any_at p xs k y (omega (arith, l)) e t)
  where
    or_true : (b c : Bool) → c ≡ true → (b || c) ≡ true
    or_true true c f = refl
    or_true false c f = f

which_any : (key : List ℕ) (xs : List (List ℕ)) → list_any (bytes_eq key) xs ≡ true → Contains xs key
which_any key [] e = absurd (cc e)
which_any key (x ∷ xs) e = at (bytes_eq key x) refl (which_any key xs) e
  where
    at : (b : Bool) → bytes_eq key x ≡ b → (list_any (bytes_eq key) xs ≡ true → Contains xs key) → (b || list_any (bytes_eq key) xs) ≡ true → Contains (x ∷ xs) key
    at true f so g = (0, omega arith, sym ((bytes_eq-Decides key x).0 f))
    at false f so g = let c = so g in (suc c.0, (let l : c.0 < length xs = c.1 in omega (arith, l)), c.2)

greater : (x y : List ℕ) → is_before x y ≡ true → slice_cmp nat_cmp y x ≡ Greater
greater x y e = nat_list_cmp_total.antisymm y x ∙ at (slice_cmp nat_cmp x y) e
  where
    at : (o : Ordering) → is_lt o ≡ true → ordering_reverse o ≡ Greater
    at Less f = refl
    at Equal f = absurd (cc f)
    at Greater f = absurd (cc f)

not_before_itself : (x : List ℕ) → is_before x x ≡ false
not_before_itself x = ap is_lt (tied_itself nat_list_cmp_total x)

-- what isn't after the one that is before another is before that one
before_through : (x y z : List ℕ) → is_before z y ≡ false → is_before z x ≡ true → is_before y x ≡ true
before_through x y z e f = at (slice_cmp nat_cmp y z) refl
  where
    less : (o : Ordering) → is_lt o ≡ true → o ≡ Less
    less Less g = refl
    less Equal g = absurd (cc g)
    less Greater g = absurd (cc g)

    at : (o : Ordering) → slice_cmp nat_cmp y z ≡ o → is_before y x ≡ true
    at Less g = ap is_lt (nat_list_cmp_total.trans y z x g (less (slice_cmp nat_cmp z x) f))
    at Equal g = ap is_lt (nat_list_cmp_total.congr y z x g) ∙ f
    at Greater g = let bad : true ≡ false = sym (ap is_lt (nat_list_cmp_total.antisymm z y ∙ ap ordering_reverse g)) ∙ e in absurd (cc bad)

-- each key stands before all later ones
abbrev Rising : List (List ℕ) → Type 0
Rising [] = Unit {0}
Rising (x ∷ xs) = AllByRecursion (λ y. is_before x y ≡ true) xs × Rising xs

all_above : (need : Dependency) (others : List Dependency) → ((j : ℕ) (other : Dependency) → slice_get others j ≡ Some other → is_before need.key other.key ≡ true) → AllByRecursion (λ y. is_before need.key y ≡ true) (map (λ other. other.key) others)
all_above need [] h = tt
all_above need (other ∷ others) h = (h 0 other refl, all_above need others (λ j d e. h (suc j) d e))

rising_keys : (needs : List Dependency) → IsAscending (λ need other. is_before need.key other.key) needs → Rising (map (λ need. need.key) needs)
rising_keys [] up = tt
rising_keys (need ∷ needs) up =
    (all_above need needs (λ j other e. up 0 (suc j) need other (omega arith) refl e), rising_keys needs (rest_ascends (λ (d : Dependency). d.key) need needs up))

module _ (services : List Service) (apart : keyed.AreApart services) (ordered : NeedsAreInOrder services) where
  needs_rise : (key : List ℕ) → Rising (needs_at services key)
  needs_rise key = at (place_of services key) refl
    where
      at : (o : Option ℕ) → place_of services key ≡ o → Rising (needs_at services key)
      at None e = subst Rising (sym (keyed.not_there services apart key e)) tt
      at (Some place) e =
          let h = keyed.place_is services apart key place e in
          let same : needs_at services key ≡ map (λ (need : Dependency). need.key) (dependencies_of h.0) = ap (λ (o : Option Service). option_map_or (λ service. map (λ (need : Dependency). need.key) (dependencies_of service)) o []) h.3 in
          subst Rising (sym same) (rising_keys (dependencies_of h.0) (ordered place h.0 h.1))

  module _ (end : List ℕ) where
    abbrev closing : List ℕ → Bool
    closing key = list_any (bytes_eq end) (needs_at services key)

    abbrev back : ℕ → List ℕ → Bool
    back = steps.back [] (needs_at services) closing

    abbrev found : ℕ → List (List (List ℕ)) → Option (List (List ℕ))
    found = steps.found [] (needs_at services) closing

    goes_back : (key : List ℕ) (more : List (List ℕ)) → LeadsTo services end key more → back (length more) key ≡ true
    goes_back key [] c = any_at (bytes_eq end) (needs_at services key) c.0 end c.1 c.2 ((bytes_eq-Decides end end).1 refl)
    goes_back key (next ∷ more) c = any_at (back (length more)) (needs_at services key) c.0.0 next c.0.1 c.0.2 (goes_back next more c.1)

    is_found : (way : List (List ℕ)) (key : List ℕ) (more : List (List ℕ)) → LeadsTo services end key more → found (length more) ((way ++ key ∷ []) ∷ []) ≡ None → ⊥
    is_found way key more c e =
        let no : back (length more) key ≡ false =
        sym (ap (back (length more)) (steps.last_step [] (needs_at services) closing way key)) ∙ steps.ends [] (needs_at services) closing (length more) (way ++ key ∷ []) e in
        let bad : true ≡ false = sym (goes_back key more c) ∙ no in absurd (cc bad)

    -- what is found goes from one key on back to the end, and no other way of as many steps stands before it
    abbrev Told : List (List ℕ) → List ℕ → ℕ → List (List ℕ) → Type 0
    Told way key count circle =
        (rest : List (List ℕ)) × (circle ≡ way ++ key ∷ rest) × (length rest ≡ count) × LeadsTo services end key rest
        × ((more : List (List ℕ)) → LeadsTo services end key more → length more ≡ count → IsNotBefore more rest)

    abbrev ToldAmong : List (List ℕ) → List (List ℕ) → ℕ → List (List ℕ) → Type 0
    ToldAmong way needs count circle =
        (need : List ℕ) × (rest : List (List ℕ)) × Contains needs need × (circle ≡ way ++ need ∷ rest) × (length rest ≡ count) × LeadsTo services end need rest
        × ((next : List ℕ) (more : List (List ℕ)) → Contains needs next → LeadsTo services end next more → length more ≡ count → IsNotBefore (next ∷ more) (need ∷ rest))

    among : (count : ℕ) → ((way : List (List ℕ)) (key : List ℕ) (circle : List (List ℕ)) → found count ((way ++ key ∷ []) ∷ []) ≡ Some circle → Told way key count circle)
        → (way : List (List ℕ)) (needs : List (List ℕ)) (circle : List (List ℕ)) → Rising needs → found count (map (λ need. way ++ need ∷ []) needs) ≡ Some circle → ToldAmong way needs count circle
    among count told way [] circle up e = let bad : None ≡ Some circle = sym (ap (find (steps.closes [] (needs_at services) closing)) (steps.on-nil [] (needs_at services) closing count)) ∙ e in absurd (cc bad)
    among count told way (x ∷ xs) circle up e =
        at (found count ((way ++ x ∷ []) ∷ [])) refl (sym (steps.found-cons [] (needs_at services) closing count (way ++ x ∷ []) (map (λ need. way ++ need ∷ []) xs)) ∙ e) (among count told way xs circle up.1)
      where
        at : (o : Option (List (List ℕ))) → found count ((way ++ x ∷ []) ∷ []) ≡ o → option_or o (found count (map (λ need. way ++ need ∷ []) xs)) ≡ Some circle
            → (found count (map (λ need. way ++ need ∷ []) xs) ≡ Some circle → ToldAmong way xs count circle) → ToldAmong way (x ∷ xs) count circle
        at (Some c) f g so =
            let t = told way x circle (f ∙ g) in
            (x, t.0, (0, omega arith, refl), t.1, t.2, t.3, λ next more n l m. first next more n.0 n.1 n.2 l m)
          where
            first : (next : List ℕ) (more : List (List ℕ)) (k : ℕ) → k < length (x ∷ xs) → get_or (x ∷ xs) k next ≡ next → LeadsTo services end next more → length more ≡ count
                → IsNotBefore (next ∷ more) (x ∷ (told way x circle (f ∙ g)).0)
            first next more zero low n l m =
                let t = told way x circle (f ∙ g) in
                subst (λ (y : List ℕ). LeadsTo services end y more → IsNotBefore (y ∷ more) (x ∷ t.0)) n
                (λ k. ap (λ o. is_lt (ordering_then o (slice_cmp (slice_cmp nat_cmp) more t.0))) (tied_itself nat_list_cmp_total x) ∙ t.4 more k m) l
            first next more (suc k) low n l m =
                let t = told way x circle (f ∙ g) in
                ap (λ o. is_lt (ordering_then o (slice_cmp (slice_cmp nat_cmp) more t.0)))
                (greater x next (all_at (λ y. is_before x y ≡ true) xs k next (omega (arith, low)) n up.0))
        at None f g so =
            let t = so g in
            (t.0, t.1, (suc t.2.0, (let low : t.2.0 < length xs = t.2.1 in omega (arith, low)), t.2.2), t.3, t.4, t.5, λ next more n l m. later next more n.0 n.1 n.2 l m)
          where
            later : (next : List ℕ) (more : List (List ℕ)) (k : ℕ) → k < length (x ∷ xs) → get_or (x ∷ xs) k next ≡ next → LeadsTo services end next more → length more ≡ count
                → IsNotBefore (next ∷ more) ((so g).0 ∷ (so g).1)
            later next more zero low n l m =
                absurd (is_found way x more (subst (λ (y : List ℕ). LeadsTo services end y more) (sym n) l) (ap (λ j. found j ((way ++ x ∷ []) ∷ [])) m ∙ f))
            later next more (suc k) low n l m = (so g).6 next more (k, omega (arith, low), n) l m

    pub told : (count : ℕ) (way : List (List ℕ)) (key : List ℕ) (circle : List (List ℕ)) → found count ((way ++ key ∷ []) ∷ []) ≡ Some circle → Told way key count circle
    told zero way key circle e = at (closing (steps.last [] (needs_at services) closing (way ++ key ∷ []))) refl e
      where
        none_less : (more : List (List ℕ)) → LeadsTo services end key more → length more ≡ 0 → IsNotBefore more []
        none_less [] l m = refl
        none_less (x ∷ more) l m = absurd (omega (arith, m))

        at : (b : Bool) → closing (steps.last [] (needs_at services) closing (way ++ key ∷ [])) ≡ b → cond b (Some (way ++ key ∷ [])) None ≡ Some circle → Told way key 0 circle
        at true f g =
            let same : way ++ key ∷ [] ≡ circle = cc g in
            let shut : closing key ≡ true = sym (ap closing (steps.last_step [] (needs_at services) closing way key)) ∙ f in
            ([], sym same, refl, which_any end (needs_at services key) shut, none_less)
        at false f g = absurd (cc g)
    told (suc count) way key circle e =
        let last : steps.last [] (needs_at services) closing (way ++ key ∷ []) ≡ key = steps.last_step [] (needs_at services) closing way key in
        let moved : found count (map (λ need. (way ++ key ∷ []) ++ need ∷ []) (needs_at services key)) ≡ Some circle =
        sym (ap (λ name. found count (map (λ need. (way ++ key ∷ []) ++ need ∷ []) (needs_at services name))) last)
        ∙ sym (ap (found count) (append-nil (steps.steps [] (needs_at services) closing (way ++ key ∷ [])))) ∙ e in
        let t = among count (told count) (way ++ key ∷ []) (needs_at services key) circle (needs_rise key) moved in
        (t.0 ∷ t.1, t.3 ∙ append_assoc way (key ∷ []) (t.0 ∷ t.1), ap (λ n. suc n) t.4, (t.2, t.5), λ more l m. one_on more l m t)
      where
        one_on : (more : List (List ℕ)) → LeadsTo services end key more → length more ≡ suc count → (t : ToldAmong (way ++ key ∷ []) (needs_at services key) count circle) → IsNotBefore more (t.0 ∷ t.1)
        one_on [] l m t = absurd (omega (arith, m))
        one_on (next ∷ more) l m t = t.6 next more l.0 l.1 (omega (arith, m))

    key_ways : (more count : ℕ) → ways services end (count + more) ≡ steps.on [] (needs_at services) closing more (ways services end count)
    key_ways zero count = let e : count + 0 ≡ count = omega arith in ap (ways services end) e
    key_ways (suc more) count = let e : count + suc more ≡ suc count + more = omega arith in ap (ways services end) e ∙ key_ways more (suc count)

    as_found : (count : ℕ) → circle_of services end count ≡ found count ((end ∷ []) ∷ [])
    as_found count =
        let z : 0 + count ≡ count = omega arith in
        ap (λ n. find (closes services end) (ways services end n)) (sym z) ∙ ap (find (closes services end)) (key_ways count 0)

    -- a circle through a key is found at its length
    circle_found : (more : List (List ℕ)) → LeadsTo services end end more → circle_of services end (length more) ≡ None → ⊥
    circle_found more l e = is_found [] end more l (sym (as_found (length more)) ∙ e)

    someone : (more : List (List ℕ)) → LeadsTo services end end more → needs_at services end ≡ [] → ⊥
    someone [] l e = let low : l.0 < length (needs_at services end) = l.1 in let n : length (needs_at services end) ≡ 0 = ap (λ (xs : List (List ℕ)). length xs) e in omega (arith, low, n)
    someone (next ∷ more) l e = let low : l.0.0 < length (needs_at services end) = l.0.1 in let n : length (needs_at services end) ≡ 0 = ap (λ (xs : List (List ℕ)). length xs) e in omega (arith, low, n)

    -- the first of a circle is a service that is there
    pub its_place : (more : List (List ℕ)) → LeadsTo services end end more → (place : ℕ) × (service : Service) × (slice_get services place ≡ Some service) × (service.key ≡ end)
    its_place more l = at (place_of services end) refl
      where
        at : (o : Option ℕ) → place_of services end ≡ o → (place : ℕ) × (service : Service) × (slice_get services place ≡ Some service) × (service.key ≡ end)
        at None e = absurd (someone more l (keyed.not_there services apart end e))
        at (Some place) e = let h = keyed.place_is services apart end place e in (place, h.0, h.1, h.2)

    which : (circle : List (List ℕ)) → circle_through services end ≡ Some circle
        → (count : ℕ) × (circle_of services end count ≡ Some circle) × ((less : ℕ) → less < count → circle_of services end less ≡ None)
    which circle e =
        let w = which_given (circle_of services end) (length services) 0 circle e in
        let z : 0 + w.0 ≡ w.0 = omega arith in
        (w.0, sym (ap (circle_of services end) z) ∙ w.2, λ less l. (let y : 0 + less ≡ less = omega arith in sym (ap (circle_of services end) y) ∙ w.3 less l))

    -- the circle through a key is one, and of those through it the shortest, and then the least
    pub through_least : (circle : List (List ℕ)) → circle_through services end ≡ Some circle
        → (rest : List (List ℕ)) × (circle ≡ end ∷ rest) × LeadsTo services end end rest
        × ((more : List (List ℕ)) → LeadsTo services end end more → length rest ≤ length more)
        × ((more : List (List ℕ)) → LeadsTo services end end more → length more ≡ length rest → IsNotBefore (end ∷ more) (end ∷ rest))
    through_least circle e =
        let w = which circle e in
        let t = told w.0 [] end circle (sym (as_found w.0) ∙ w.1) in (
          t.0,
          t.1,
          t.3,
          (λ more l. short more l w.0 w.2 t.0 t.2 (below_or (length more) w.0)),
          (λ more l m. ap (λ o. is_lt (ordering_then o (slice_cmp (slice_cmp nat_cmp) more t.0))) (tied_itself nat_list_cmp_total end) ∙ t.4 more l (m ∙ t.2)),
        )
      where
        short : (more : List (List ℕ)) → LeadsTo services end end more → (count : ℕ) → ((less : ℕ) → less < count → circle_of services end less ≡ None) → (rest : List (List ℕ)) → length rest ≡ count
            → (length more < count) ⊎ (count ≤ length more) → length rest ≤ length more
        short more l count none rest r (inl low) = absurd (circle_found more l (none (length more) low))
        short more l count none rest r (inr high) = omega (arith, r, high)

  -- through the first of a circle a circle is told
  pub is_through : (place : ℕ) (service : Service) → slice_get services place ≡ Some service → (more : List (List ℕ)) → LeadsTo services service.key service.key more → circle_through services service.key ≡ None → ⊥
  is_through place service h more l e =
      circle_found service.key more l
      (keyed.circle_same services apart place service h (length more) ∙ ap (option_map (keys_on services)) (nowhere (length more)))
    where
      no_way : way_back (links_of services) place ≡ None
      no_way = at (way_back (links_of services) place) (sym (keyed.through_same services apart place service h) ∙ e)
        where
          at : (o : Option (List ℕ)) → option_map (keys_on services) o ≡ None → o ≡ None
          at None f = refl
          at (Some way) f = absurd (cc f)

      none : walks.NoneBelow (links_of services) place (length (links_of services))
      none less low =
          let z : 0 + less ≡ less = omega arith in
          sym (ap (λ n. find (leads_back (links_of services) place) (place_ways (links_of services) place n)) z)
          ∙ none_were (λ n. find (leads_back (links_of services) place) (place_ways (links_of services) place n)) (length (links_of services)) 0 no_way less low

      within : place < length (links_of services)
      within = let l : place < length services = slice_get_within services place service h in let n : length (links_of services) ≡ length services = length-map services (places_of services) in omega (arith, l, n)

      nowhere : (count : ℕ) → find (leads_back (links_of services) place) (place_ways (links_of services) place count) ≡ None
      nowhere count = never_back (links_of services) (keyed.links_within services apart) place within none (suc count) count (omega arith)

-- services that are put in order: none stands before an earlier one
abbrev Sorted : List Service → Type 0
Sorted [] = Unit {0}
Sorted (x ∷ xs) = AllByRecursion (λ y. is_before y.key x.key ≡ false) xs × Sorted xs

abbrev key_of : Service → List ℕ
key_of service = service.key

all-placed : (P : Service → Type 0) (x : Service) (xs : List Service) → P x → AllByRecursion P xs → AllByRecursion P (placed key_of x xs)
all-placed P x [] p all = (p, tt)
all-placed P x (y ∷ ys) p all = at (is_before y.key x.key) (all-placed P x ys p all.1)
  where
    at : (b : Bool) → AllByRecursion P (placed key_of x ys) → AllByRecursion P (cond b (y ∷ placed key_of x ys) (x ∷ y ∷ ys))
    at true rest = (all.0, rest)
    at false rest = (p, all)

not_above : (x y : Service) (ys : List Service) → is_before y.key x.key ≡ false → AllByRecursion (λ z. is_before z.key y.key ≡ false) ys → AllByRecursion (λ z. is_before z.key x.key ≡ false) ys
not_above x y [] e all = tt
not_above x y (z ∷ zs) e all = (at (is_before z.key x.key) refl, not_above x y zs e all.1)
  where
    at : (b : Bool) → is_before z.key x.key ≡ b → is_before z.key x.key ≡ false
    at false f = f
    at true f = let bad : true ≡ false = sym (before_through x.key y.key z.key all.0 f) ∙ e in absurd (cc bad)

sorted-placed : (x : Service) (ys : List Service) → Sorted ys → Sorted (placed key_of x ys)
sorted-placed x [] s = (tt, tt)
sorted-placed x (y ∷ ys) s = at (is_before y.key x.key) refl (sorted-placed x ys s.1)
  where
    at : (b : Bool) → is_before y.key x.key ≡ b → Sorted (placed key_of x ys) → Sorted (cond b (y ∷ placed key_of x ys) (x ∷ y ∷ ys))
    at true e rest = (all-placed (λ z. is_before z.key y.key ≡ false) x ys (not_after y.key x.key e) s.0, rest)
    at false e rest = ((e, not_above x y ys e s.0), s)

sorted-by_key : (xs : List Service) → Sorted (by_key key_of xs)
sorted-by_key [] = tt
sorted-by_key (x ∷ xs) = sorted-placed x (by_key key_of xs) (sorted-by_key xs)

of_placed : (P : Service → Type 0) (x : Service) (ys : List Service) → AllByRecursion P (placed key_of x ys) → P x × AllByRecursion P ys
of_placed P x [] all = (all.0, tt)
of_placed P x (y ∷ ys) all = at (is_before y.key x.key) (of_placed P x ys) all
  where
    at : (b : Bool) → (AllByRecursion P (placed key_of x ys) → P x × AllByRecursion P ys) → AllByRecursion P (cond b (y ∷ placed key_of x ys) (x ∷ y ∷ ys)) → P x × AllByRecursion P (y ∷ ys)
    at true so a = let r = so a.1 in (r.0, (a.0, r.1))
    at false so a = (a.0, a.1)

-- what holds of all that are sorted holds of all
of_sorted : (P : Service → Type 0) (xs : List Service) → AllByRecursion P (by_key key_of xs) → AllByRecursion P xs
of_sorted P [] all = tt
of_sorted P (x ∷ xs) all = let r = of_placed P x (by_key key_of xs) all in (r.0, of_sorted P xs r.1)

all_get : (P : Service → Type 0) (xs : List Service) (k : ℕ) (x : Service) → slice_get xs k ≡ Some x → AllByRecursion P xs → P x
all_get P [] k x e all = absurd (cc e)
all_get P (y ∷ ys) zero x e all = let same : y ≡ x = cc e in subst P same all.0
all_get P (y ∷ ys) (suc k) x e all = all_get P ys k x e all.1

module _ (f : Service → Option (List (List ℕ))) where
  none_of : (xs : List Service) → first_of (map f xs) ≡ None → AllByRecursion (λ x. f x ≡ None) xs
  none_of [] e = tt
  none_of (x ∷ xs) e = at (f x) refl (none_of xs) e
    where
      at : (o : Option (List (List ℕ))) → f x ≡ o → (first_of (map f xs) ≡ None → AllByRecursion (λ x. f x ≡ None) xs) → option_or o (first_of (map f xs)) ≡ None → AllByRecursion (λ x. f x ≡ None) (x ∷ xs)
      at None g so h = (g, so h)
      at (Some c) g so h = absurd (cc h)

  abbrev Apart : Service → Service → Type 0
  Apart s t = (f t ≡ None) ⊎ (is_before t.key s.key ≡ false)

  all_apart : (s : Service) (xs : List Service) → AllByRecursion (λ y. is_before y.key s.key ≡ false) xs → AllByRecursion (Apart s) xs
  all_apart s [] all = tt
  all_apart s (x ∷ xs) all = (inr all.0, all_apart s xs all.1)

  least_of : (xs : List Service) (c : List (List ℕ)) → Sorted xs → first_of (map f xs) ≡ Some c → (s : Service) × (f s ≡ Some c) × AllByRecursion (Apart s) xs
  least_of [] c s e = absurd (cc e)
  least_of (x ∷ xs) c s e = at (f x) refl (least_of xs c s.1) e
    where
      at : (o : Option (List (List ℕ))) → f x ≡ o → (first_of (map f xs) ≡ Some c → (t : Service) × (f t ≡ Some c) × AllByRecursion (Apart t) xs)
          → option_or o (first_of (map f xs)) ≡ Some c → (t : Service) × (f t ≡ Some c) × AllByRecursion (Apart t) (x ∷ xs)
      at None g so h = let r = so h in (r.0, r.1, (inl g, r.2))
      at (Some d) g so h = (x, g ∙ h, (inr (not_before_itself x.key), all_apart x xs s.0))

module _ (services : List Service) (distinct : IsDistinct bytes_eq (map (λ service. service.key) services)) (ordered : NeedsAreInOrder services) where
  apart : keyed.AreApart services
  apart i j d l m =
      let n : length (map key_of services) ≡ length services = length-map services key_of in
      let low : i < length services = omega (arith, l, m) in
      let e : bytes_eq (get_or (map key_of services) i d.key) (get_or (map key_of services) j d.key) ≡ false = apart_from_distinct bytes_eq (map key_of services) i j d.key distinct l (omega (arith, m, n)) in
      sym (ap (λ (k : List ℕ). bytes_eq k (get_or services j d).key) (get_or-map key_of services i d d.key low))
      ∙ sym (ap (λ (k : List ℕ). bytes_eq (get_or (map key_of services) i d.key) k) (get_or-map key_of services j d d.key m)) ∙ e

  abbrev through : Service → Option (List (List ℕ))
  through service = circle_through services service.key

  no_circle : cycle services ≡ None → (circle : List (List ℕ)) → IsCircle services circle → ⊥
  no_circle e [] c = c
  no_circle e (key ∷ more) c =
      let p = its_place services apart ordered key more c in
      is_through services apart ordered p.0 p.1 p.2 more (subst (λ (k : List ℕ). LeadsTo services k k more) (sym p.3) c)
      (all_get (λ s. through s ≡ None) services p.0 p.1 p.2 (of_sorted (λ s. through s ≡ None) services (none_of through (by_key key_of services) e)))

  told_circle : (o : Option (List (List ℕ))) → cycle services ≡ o → IsToldCircle services o
  told_circle None e = no_circle e
  told_circle (Some circle) e = subst (IsLeastCircle services) (sym t.1) (record {
    closes = t.2;
    service = first;
    shortest = short;
    least = less;
  })
    where
      l : (s : Service) × (through s ≡ Some circle) × AllByRecursion (Apart through s) (by_key key_of services)
      l = least_of through (by_key key_of services) circle (sorted-by_key services) e

      t : (rest : List (List ℕ)) × (circle ≡ l.0.key ∷ rest) × LeadsTo services l.0.key l.0.key rest
          × ((more : List (List ℕ)) → LeadsTo services l.0.key l.0.key more → length rest ≤ length more)
          × ((more : List (List ℕ)) → LeadsTo services l.0.key l.0.key more → length more ≡ length rest → IsNotBefore (l.0.key ∷ more) (l.0.key ∷ rest))
      t = through_least services apart ordered l.0.key circle l.1

      first : (other : List (List ℕ)) → IsCircle services other → is_before (first_key other) l.0.key ≡ false
      first [] c = absurd c
      first (key ∷ more) c = at (all_get (Apart through l.0) services p.0 p.1 p.2 (of_sorted (Apart through l.0) services l.2))
        where
          p : (place : ℕ) × (service : Service) × (slice_get services place ≡ Some service) × (service.key ≡ key)
          p = its_place services apart ordered key more c

          at : Apart through l.0 p.1 → is_before key l.0.key ≡ false
          at (inl none) = absurd (is_through services apart ordered p.0 p.1 p.2 more (subst (λ (k : List ℕ). LeadsTo services k k more) (sym p.3) c) none)
          at (inr f) = sym (ap (λ (k : List ℕ). is_before k l.0.key) p.3) ∙ f

      short : (other : List (List ℕ)) → IsCircle services other → first_key other ≡ l.0.key → length (l.0.key ∷ t.0) ≤ length other
      short [] c f = absurd c
      short (key ∷ more) c f = let n : length t.0 ≤ length more = t.3 more (subst (λ (k : List ℕ). LeadsTo services k k more) f c) in omega (arith, n)

      less : (other : List (List ℕ)) → IsCircle services other → first_key other ≡ l.0.key → length other ≡ length (l.0.key ∷ t.0) → IsNotBefore other (l.0.key ∷ t.0)
      less [] c f m = absurd c
      less (key ∷ more) c f m =
          let n : length more ≡ length t.0 = omega (arith, m) in
          subst (λ (k : List ℕ). IsNotBefore (k ∷ more) (l.0.key ∷ t.0)) (sym f) (t.4 more (subst (λ (k : List ℕ). LeadsTo services k k more) f c) n)

pub cycles_least : (services : List Service) → IsDistinct bytes_eq (map (λ service. service.key) services) → NeedsAreInOrder services → IsToldCircle services (cycle services)
cycles_least services distinct ordered = told_circle services distinct ordered (cycle services) refl
