-- The observation that an Engine allows is one.
use Rattle.std.proofs.Common.{◌≡◌, ◌∙◌, inl, inr, true, false, List, [], ◌∷◌, ◌++◌, Some, None, append-nil, append_assoc, ap, refl, subst, sym}
use Rattle.engine_types.specs.declared.Aim.{Aim}
use Rattle.engine_types.specs.declared.Declared.{Declared}
use Rattle.engine_types.specs.declared.Exchange.{Exchange}
use Rattle.engine_types.specs.declared.Observed.{Observed}
use Rattle.engine_types.specs.declared.Outcome.{Outcome}
use Rattle.engine_types.specs.declared.Purpose.{Purpose}
use Rattle.engine_types.specs.declared.Request.{Request}
use Rattle.engine_types.specs.declared.SeenEnd.{SeenEnd}
use Rattle.run_model.specs.Legal.{IsObserved, seen_end, whole_end}
use Rattle.run_model.specs.Observation.{Asks, Ends, Onward, Strays, observed}
use Rattle.run_model.proofs.RequestLemmas.{request_is}
use Rattle.cut_laws.proofs.ObservationLaws.{each_is_asked}
use Rattle.deterministic_runs.specs.Allowed.{AreServed, Rules, Stand, is_short_end, stand_after}

-- an observation of these exchanges, whose end follows from them
abbrev Whole : Declared → Aim → List Exchange → SeenEnd → Type 0
Whole declared aim exchanges end = (seen : SeenEnd) × (observed declared aim.purpose exchanges ≡ Ends seen) × (whole_end declared aim seen ≡ end)

some_same : {X : Type 0} (x y : X) → Some x ≡ Some y → x ≡ y
some_same x y e = cc e

whole_of : (declared : Declared) (aim : Aim) (exchanges : List Exchange) (end : SeenEnd) → seen_end declared aim exchanges ≡ Some end → Whole declared aim exchanges end
whole_of declared aim exchanges end = at (observed declared aim.purpose exchanges) refl
  where
    at : (onward : Onward) → observed declared aim.purpose exchanges ≡ onward → seen_end declared aim exchanges ≡ Some end → Whole declared aim exchanges end
    at (Ends seen) is found =
        let whole : seen_end declared aim exchanges ≡ Some (whole_end declared aim seen) = rw is refl in
        (seen, is, some_same (whole_end declared aim seen) end (sym whole ∙ found))
    at (Asks request) is found =
        let none : seen_end declared aim exchanges ≡ None = rw is refl in
        let wrong : None ≡ Some end = sym none ∙ found in absurd (cc wrong)
    at Strays is found =
        let none : seen_end declared aim exchanges ≡ None = rw is refl in
        let wrong : None ≡ Some end = sym none ∙ found in absurd (cc wrong)

whole_observed : (declared : Declared) (aim : Aim) (observation : Observed) → IsObserved declared aim observation → is_short_end observation.end ≡ false
    → Whole declared aim observation.exchanges observation.end
whole_observed declared aim observation (inl e) ample = whole_of declared aim observation.exchanges observation.end e
whole_observed declared aim observation (inr short) ample =
    let wrong : true ≡ false = sym (ap is_short_end short.0) ∙ ample in absurd (cc wrong)

asks_same : (request other : Request) → Asks request ≡ Asks other → request ≡ other
asks_same request other e = cc e

-- nothing follows exchanges that ended, where another observation goes on
ended_here : (declared : Declared) (purpose : Purpose) (before : List Exchange) (y : Exchange) (ys : List Exchange) (end other : SeenEnd)
    → observed declared purpose (before ++ []) ≡ Ends end → observed declared purpose (before ++ y ∷ ys) ≡ Ends other → ⊥
ended_here declared purpose before y ys end other ended more =
    let next = each_is_asked declared purpose before y ys (rw more refl) in
    let wrong : Asks next.0 ≡ Ends end = sym next.1 ∙ ap (λ (l : List Exchange). observed declared purpose l) (sym (append-nil before)) ∙ ended in cc wrong

-- an exchange, and an observation, by their parts
abbrev exchange_of : Request → Outcome → Exchange
exchange_of request outcome = record { request = request; outcome = outcome }

abbrev observed_as : List Exchange → SeenEnd → Observed
observed_as exchanges end = record { exchanges = exchanges; end = end }

same_exchange : (rules : Rules) (stand : Stand) (x y : Exchange) → x.request ≡ y.request → x.outcome ≡ (rules.next stand x.request).0
    → y.outcome ≡ (rules.next stand y.request).0 → x ≡ y
same_exchange rules stand x y same one other =
    let outcomes : x.outcome ≡ y.outcome = one ∙ ap (λ (r : Request). (rules.next stand r).0) same ∙ sym other in
    ap (λ (r : Request). exchange_of r x.outcome) same
    ∙ ap (λ (o : Outcome). exchange_of y.request o) outcomes

pub same_exchanges : (rules : Rules) (declared : Declared) (purpose : Purpose) (stand : Stand) (before xs ys : List Exchange) (end other : SeenEnd)
    → observed declared purpose (before ++ xs) ≡ Ends end → observed declared purpose (before ++ ys) ≡ Ends other
    → AreServed rules stand xs → AreServed rules stand ys → xs ≡ ys
same_exchanges rules declared purpose stand before [] [] end other e f s t = refl
same_exchanges rules declared purpose stand before [] (y ∷ ys) end other e f s t = absurd (ended_here declared purpose before y ys end other e f)
same_exchanges rules declared purpose stand before (x ∷ xs) [] end other e f s t = absurd (ended_here declared purpose before x xs other end f e)
same_exchanges rules declared purpose stand before (x ∷ xs) (y ∷ ys) end other e f s t =
    let one = each_is_asked declared purpose before x xs (rw e refl) in
    let two = each_is_asked declared purpose before y ys (rw f refl) in
    let asked : one.0 ≡ two.0 = asks_same one.0 two.0 (sym one.1 ∙ two.1) in
    let request : x.request ≡ y.request = sym (request_is one.0 x.request one.2) ∙ asked ∙ request_is two.0 y.request two.2 in
    let first : x ≡ y = same_exchange rules stand x y request s.0 t.0 in
    let on : observed declared purpose ((before ++ x ∷ []) ++ xs) ≡ Ends end = ap (λ (l : List Exchange). observed declared purpose l) (append_assoc before (x ∷ []) xs) ∙ e in
    let on_too : observed declared purpose ((before ++ x ∷ []) ++ ys) ≡ Ends other =
    ap (λ (l : List Exchange). observed declared purpose l) (append_assoc before (x ∷ []) ys ∙ ap (λ (z : Exchange). before ++ z ∷ ys) first) ∙ f in
    let later : AreServed rules (stand_after rules stand x.request) ys = subst (λ (r : Request). AreServed rules (stand_after rules stand r) ys) (sym request) t.1 in
    let rest : xs ≡ ys = same_exchanges rules declared purpose (stand_after rules stand x.request) (before ++ x ∷ []) xs ys end other on on_too s.1 later in
    ap (λ (l : List Exchange). x ∷ l) rest ∙ ap (λ (z : Exchange). z ∷ ys) first

-- two observations that the Engine allows are the same
pub same_observation : (rules : Rules) (declared : Declared) (aim : Aim) (stand : Stand) (one other : Observed)
    → IsObserved declared aim one → IsObserved declared aim other → is_short_end one.end ≡ false → is_short_end other.end ≡ false
    → AreServed rules stand one.exchanges → AreServed rules stand other.exchanges → one ≡ other
same_observation rules declared aim stand one other e f ample ample_too s t =
    let first = whole_observed declared aim one e ample in
    let second = whole_observed declared aim other f ample_too in
    let exchanges : one.exchanges ≡ other.exchanges = same_exchanges rules declared aim.purpose stand [] one.exchanges other.exchanges first.0 second.0 first.1 second.1 s t in
    let ends : Ends first.0 ≡ Ends second.0 = sym first.1 ∙ ap (λ (l : List Exchange). observed declared aim.purpose l) exchanges ∙ second.1 in
    let seen : first.0 ≡ second.0 = cc ends in
    let end : one.end ≡ other.end = sym first.2 ∙ ap (λ (e : SeenEnd). whole_end declared aim e) seen ∙ second.2 in
    ap (λ (l : List Exchange). observed_as l one.end) exchanges
    ∙ ap (λ (e : SeenEnd). observed_as other.exchanges e) end
