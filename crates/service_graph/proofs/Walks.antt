-- The shortest way back, found by levels.
use Rattle.std.proofs.Common.{◌≡◌, ℕ, zero, suc, ◌+◌, ◌<◌, Bool, true, false, cond, List, [], ◌∷◌, Some, None, length, get_or, set, replicate, refl, ap, sym, ◌∙◌, arith, inl, inr}
use Rattle.std.specs.Prelude.{◌==◌, Option, find}
use Rattle.std.specs.List.{list_any}
use Rattle.std.specs.Option.{option_or}
use Rattle.service_graph.specs.Places.{further, last_place, leads_back, next_of, place_ways, way_back}
use Rattle.service_graph.specs.Reaching.{fresh, marked}
use Rattle.service_graph.proofs.Steps as steps
use Rattle.service_graph.proofs.Lists.{first_given, none_given, none_true, or_false, or_left, or_right, true_set, up_to}

module _ (links : List (List ℕ)) (start : ℕ) where
  abbrev pub closing : ℕ → Bool
  closing place = list_any (λ next. next == start) (next_of links place)

  abbrev pub on : ℕ → List (List ℕ) → List (List ℕ)
  on = steps.on 0 (next_of links) closing

  abbrev pub back : ℕ → ℕ → Bool
  back = steps.back 0 (next_of links) closing

  -- what is found first of so many more steps
  abbrev pub found : ℕ → List (List ℕ) → Option (List ℕ)
  found = steps.found 0 (next_of links) closing

  -- ways that end where one ended that was seen, or an earlier one, may be left out
  pub fresh_found : (count : ℕ) (seen : List Bool) (ways : List (List ℕ)) → ((place : ℕ) → get_or seen place false ≡ true → back count place ≡ false) → found count (fresh seen ways) ≡ found count ways
  fresh_found count seen [] none = refl
  fresh_found count seen (way ∷ ways) none =
      at (get_or seen (last_place way) false) refl (fresh_found count seen ways none) (fresh_found count (set seen (last_place way) true) ways)
    where
      front : (rest : List (List ℕ)) (o : Option (List ℕ)) → found count (way ∷ []) ≡ o → found count (way ∷ rest) ≡ option_or o (found count rest)
      front rest o e = steps.found-cons 0 (next_of links) closing count way rest ∙ ap (λ (p : Option (List ℕ)). option_or p (found count rest)) e

      kept : (o : Option (List ℕ)) → found count (way ∷ []) ≡ o
          → (((place : ℕ) → get_or (set seen (last_place way) true) place false ≡ true → back count place ≡ false) → found count (fresh (set seen (last_place way) true) ways) ≡ found count ways)
          → found count (way ∷ fresh (set seen (last_place way) true) ways) ≡ found count (way ∷ ways)
      kept (Some w) e so = front (fresh (set seen (last_place way) true) ways) (Some w) e ∙ sym (front ways (Some w) e)
      kept None e so =
          front (fresh (set seen (last_place way) true) ways) None e
          ∙ so (λ place h. elim (true_set seen (last_place way) place h) [
            | inl g ↦ none place g
            | inr g ↦ ap (back count) g ∙ steps.ends 0 (next_of links) closing count way e
          ])
          ∙ sym (front ways None e)

      at : (b : Bool) → (get_or seen (last_place way) false ≡ b) → found count (fresh seen ways) ≡ found count ways
          → (((place : ℕ) → get_or (set seen (last_place way) true) place false ≡ true → back count place ≡ false) → found count (fresh (set seen (last_place way) true) ways) ≡ found count ways)
          → found count (cond b (fresh seen ways) (way ∷ fresh (set seen (last_place way) true) ways)) ≡ found count (way ∷ ways)
      at true e left so = left ∙ sym (front ways None (steps.alone 0 (next_of links) closing count way (none (last_place way) e)))
      at false e left so = kept (found count (way ∷ [])) refl so

  -- ways of more steps are ways, so many steps further
  pub ways_on : (more count : ℕ) → place_ways links start (count + more) ≡ on more (place_ways links start count)
  ways_on zero count = let e : count + 0 ≡ count = omega arith in ap (place_ways links start) e
  ways_on (suc more) count = let e : count + suc more ≡ suc count + more = omega arith in ap (place_ways links start) e ∙ ways_on more (suc count)

  -- no way of fewer steps leads back
  abbrev pub NoneBelow : ℕ → Type 0
  NoneBelow count = (fewer : ℕ) → fewer < count → find (leads_back links start) (place_ways links start fewer) ≡ None

  -- what is known when places were reached up to a number of steps, at the end of these ways
  pub record IsLevel (count : ℕ) (ways : List (List ℕ)) (seen : List Bool) : Type 0 where
    pub none : NoneBelow count
    pub same : (more : ℕ) → NoneBelow (count + more) → find (leads_back links start) (place_ways links start (count + more)) ≡ found more ways
    pub over : (place : ℕ) → get_or seen place false ≡ true → (more : ℕ) → NoneBelow (count + 1 + more) → back more place ≡ false

  not_back : (more : ℕ) (ways : List (List ℕ)) → found more ways ≡ None → list_any (λ way. back more (last_place way)) ways ≡ false
  not_back = steps.not_back 0 (next_of links) closing

  pub first_level : (size : ℕ) → IsLevel 0 ((start ∷ []) ∷ []) (set (replicate size false) start true)
  first_level size = record {
    none = λ fewer l. absurd (omega (arith, l));
    same = λ more h. ap (find (leads_back links start)) (ways_on more 0);
    over = first_over;
  }
    where
      begun : (more : ℕ) → NoneBelow (0 + 1 + more) → back more start ≡ false
      begun more h =
          or_false (back more start) (not_back more ((start ∷ []) ∷ []) (sym (ap (find (leads_back links start)) (ways_on more 0)) ∙ h (0 + more) (omega arith)))

      first_over : (place : ℕ) → get_or (set (replicate size false) start true) place false ≡ true → (more : ℕ) → NoneBelow (0 + 1 + more) → back more place ≡ false
      first_over place e more h = elim (true_set (replicate size false) start place e) [
        | inl g ↦ (let bad : true ≡ false = sym g ∙ none_true size place in absurd (cc bad))
        | inr g ↦ ap (back more) g ∙ begun more h
      ]

  -- what is noted was seen, or one of the ways that are new ends there
  noted_not : (p : ℕ → Bool) (seen : List Bool) (ways : List (List ℕ)) → list_any (λ way. p (last_place way)) (fresh seen ways) ≡ false
      → ((place : ℕ) → get_or seen place false ≡ true → p place ≡ false) → (place : ℕ) → get_or (marked seen ways) place false ≡ true → p place ≡ false
  noted_not p seen [] e none place h = none place h
  noted_not p seen (way ∷ ways) e none place h =
      at (get_or seen (last_place way) false) (λ f g. noted_not p seen ways f none place g) (λ f free g. noted_not p (set seen (last_place way) true) ways f free place g) e h
    where
      at : (b : Bool) → (list_any (λ w. p (last_place w)) (fresh seen ways) ≡ false → get_or (marked seen ways) place false ≡ true → p place ≡ false)
          → (list_any (λ w. p (last_place w)) (fresh (set seen (last_place way) true) ways) ≡ false
          → ((other : ℕ) → get_or (set seen (last_place way) true) other false ≡ true → p other ≡ false)
          → get_or (marked (set seen (last_place way) true) ways) place false ≡ true → p place ≡ false)
          → list_any (λ w. p (last_place w)) (cond b (fresh seen ways) (way ∷ fresh (set seen (last_place way) true) ways)) ≡ false
          → get_or (cond b (marked seen ways) (marked (set seen (last_place way) true) ways)) place false ≡ true → p place ≡ false
      at true so more f g = so f g
      at false so more f g =
          more (or_right (p (last_place way)) (list_any (λ w. p (last_place w)) (fresh (set seen (last_place way) true) ways)) f)
          (λ other k. elim (true_set seen (last_place way) other k) [
            | inl m ↦ none other m
            | inr m ↦ ap p m ∙ or_left (p (last_place way)) (list_any (λ w. p (last_place w)) (fresh (set seen (last_place way) true) ways)) f
          ]) g

  module _ (count : ℕ) (ways : List (List ℕ)) (seen : List Bool) (level : IsLevel count ways seen) where
    pub here : find (leads_back links start) (place_ways links start count) ≡ find (leads_back links start) ways
    here =
        let e : count + 0 ≡ count = omega arith in
        sym (ap (λ n. find (leads_back links start) (place_ways links start n)) e) ∙ level.same 0 (λ fewer l. level.none fewer (omega (arith, l)))

    next_same : (more : ℕ) → NoneBelow (suc count + more) → find (leads_back links start) (place_ways links start (suc count + more)) ≡ found more (fresh seen (further links ways))
    next_same more h =
        let e : suc count + more ≡ count + suc more = omega arith in
        ap (λ n. find (leads_back links start) (place_ways links start n)) e
        ∙ level.same (suc more) (λ fewer l. h fewer (omega (arith, l)))
        ∙ sym (fresh_found more seen (further links ways) (λ place f. level.over place f more (λ fewer l. h fewer (omega (arith, l)))))

    next_over : (place : ℕ) → get_or (marked seen (further links ways)) place false ≡ true → (more : ℕ) → NoneBelow (suc count + 1 + more) → back more place ≡ false
    next_over place e more h =
        noted_not (back more) seen (further links ways)
        (not_back more (fresh seen (further links ways)) (sym (next_same more (λ fewer l. h fewer (omega (arith, l)))) ∙ h (suc count + more) (omega arith)))
        (λ other f. level.over other f more (λ fewer l. h fewer (omega (arith, l)))) place e

    next_none : find (leads_back links start) ways ≡ None → NoneBelow (suc count)
    next_none e fewer l =
        elim (up_to fewer count l) [
          | inl f ↦ level.none fewer f
          | inr f ↦ ap (λ n. find (leads_back links start) (place_ways links start n)) f ∙ here ∙ e
        ]

    -- where no way leads back, the next ones are those one step further that end where none was seen
    pub next_level : find (leads_back links start) ways ≡ None → IsLevel (suc count) (fresh seen (further links ways)) (marked seen (further links ways))
    next_level e = record {
      none = next_none e;
      same = next_same;
      over = next_over;
    }

    -- the first that leads back is the way back
    pub level_found : (way : List ℕ) → count < length links → find (leads_back links start) ways ≡ Some way → way_back links start ≡ Some way
    level_found way l e =
        first_given (λ n. find (leads_back links start) (place_ways links start n)) (length links) 0 count way
        (λ fewer h. let z : 0 + fewer ≡ fewer = omega arith in ap (λ n. find (leads_back links start) (place_ways links start n)) z ∙ level.none fewer h) l
        (let z : 0 + count ≡ count = omega arith in ap (λ n. find (leads_back links start) (place_ways links start n)) z ∙ here ∙ e)

  -- no way leads back of as many steps as there are places
  pub none_back : NoneBelow (length links) → way_back links start ≡ None
  none_back none =
      none_given (λ n. find (leads_back links start) (place_ways links start n)) (length links) 0
      (λ fewer h. let z : 0 + fewer ≡ fewer = omega arith in ap (λ n. find (leads_back links start) (place_ways links start n)) z ∙ none fewer h)
