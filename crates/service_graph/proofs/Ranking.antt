-- Where no link makes ranks less, no way comes back from a greater one.
use Rattle.std.proofs.Common.{◌≡◌, ℕ, zero, suc, ◌+◌, ◌<◌, ◌≤◌, Bool, true, false, List, [], ◌∷◌, None, length, get_or, refl, ap, sym, ◌∙◌, arith, eqb-true}
use Rattle.std.specs.Prelude.{◌||◌, ◌==◌, find}
use Rattle.std.specs.List.{Contains, list_any}
use Rattle.service_graph.specs.Places.{leads_back, next_of, place_ways, way_back}
use Rattle.service_graph.specs.Ranks.{AreRanked, IsApart}
use Rattle.service_graph.proofs.Steps as steps
use Rattle.service_graph.proofs.Walks as walks

none_any : {X : Type 0} (p : X → Bool) (xs : List X) → ((x : X) → Contains xs x → p x ≡ false) → list_any p xs ≡ false
none_any p [] none = refl
none_any p (x ∷ xs) none =
    ap (λ b. b || list_any p xs) (none x (0, omega arith, refl))
    ∙ none_any p xs (λ y c. none y (suc c.0, (let l : c.0 < length xs = c.1 in omega (arith, l)), c.2))

module _ (links : List (List ℕ)) (ranks : List ℕ) (ranked : AreRanked links ranks) (start : ℕ) where
  abbrev rank : ℕ → ℕ
  rank place = get_or ranks place 0

  not_here : (place : ℕ) → rank start < rank place → (place == start) ≡ false
  not_here place l = at (place == start) refl
    where
      at : (b : Bool) → (place == start) ≡ b → (place == start) ≡ false
      at false e = e
      at true e =
          let same : rank place ≡ rank start = ap rank (eqb-true place start e) in absurd (omega (arith, same, l))

  never_above : (count place : ℕ) → rank start < rank place → walks.back links start count place ≡ false
  never_above zero place l =
      none_any (λ next. next == start) (next_of links place) (λ to c. let up : rank place ≤ rank to = ranked place to c in not_here to (omega (arith, l, up)))
  never_above (suc count) place l =
      none_any (walks.back links start count) (next_of links place) (λ to c. let up : rank place ≤ rank to = ranked place to c in never_above count to (omega (arith, l, up)))

  never : IsApart links ranks start → (count : ℕ) → walks.back links start count start ≡ false
  never apart zero = none_any (λ next. next == start) (next_of links start) (λ to c. not_here to (apart to c))
  never apart (suc count) = none_any (walks.back links start count) (next_of links start) (λ to c. never_above count to (apart to c))

  pub apart_none : IsApart links ranks start → way_back links start ≡ None
  apart_none apart =
      walks.none_back links start (λ fewer l.
      let z : 0 + fewer ≡ fewer = omega arith in
      ap (λ n. find (leads_back links start) (place_ways links start n)) (sym z)
      ∙ ap (find (leads_back links start)) (walks.ways_on links start fewer 0)
      ∙ steps.alone 0 (next_of links) (walks.closing links start) fewer (start ∷ []) (never apart fewer))
