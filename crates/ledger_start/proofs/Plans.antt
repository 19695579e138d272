-- What may begin a run has a plan of few actions.
use Rattle.std.proofs.Common.{◌≡◌, ◌⊎◌, ℕ, zero, suc, ◌+◌, ◌<◌, ◌≤◌, Bool, true, false, cond, List, [], ◌∷◌, length, map, Option, Some, None, get_or, if◌then◌else◌, refl, sym, ap, ◌∙◌, inl, inr, arith}
use Rattle.std.proofs.lemmas.Bool.{cases_lt, ltb-false}
use Rattle.std.proofs.lemmas.Option.{slice_get_past}
use Rattle.std.specs.Option.{option_map_or}
use Rattle.std.specs.Prelude.{find, option_map}
use Rattle.engine_types.specs.declared.Action.{Action}
use Rattle.engine_types.specs.declared.Aim.{Aim}
use Rattle.engine_types.specs.declared.Declared.{Declared}
use Rattle.engine_types.specs.declared.Observed.{Observed}
use Rattle.engine_types.specs.declared.Plan.{Plan}
use Rattle.engine_types.specs.declared.RunLimits.{RunLimits}
use Rattle.engine_types.specs.declared.Seen.{Seen}
use Rattle.engine_types.specs.declared.SeenEnd.{SeenEnd}
use Rattle.engine_types.specs.declared.SeenFault.{SeenFault}
use Rattle.run_model.specs.Journals.{Setup}
use Rattle.run_model.specs.Numbers.{numbers_from}
use Rattle.run_model.specs.Legal.{IsObserved, seen_end, whole_end}
use Rattle.run_model.specs.Observation.{Asks, Ends, Onward, Strays, observed}
use Rattle.run_model.specs.Plans.{Basis, action_count, basis_of, is_start_of, is_too_long, kind_of, needs_of, planned_kinds, slot_needs}
use Rattle.plan_needs.specs.Laws.{AreStarts}
use Rattle.ledger_core.specs.Beginning.{MayBegin}

-- an observation that ended well has a plan that isn't too long
fits : (declared : Declared) (aim : Aim) (observation : Observed) (seen : Seen) → IsObserved declared aim observation → observation.end ≡ SeenEnd.Good seen → is_too_long (basis_of declared seen aim) ≡ false
fits declared aim observation seen is good = at is
  where
    by_end : (end : SeenEnd) → whole_end declared aim end ≡ SeenEnd.Good seen → is_too_long (basis_of declared seen aim) ≡ false
    by_end (SeenEnd.Bad fault) e = absurd (cc e)
    by_end (SeenEnd.Good s) e = on (is_too_long (basis_of declared s aim)) refl e
      where
        on : (t : Bool) → is_too_long (basis_of declared s aim) ≡ t
            → (if t then SeenEnd.Bad (SeenFault.TooManyActions (action_count (basis_of declared s aim))) else SeenEnd.Good s) ≡ SeenEnd.Good seen → is_too_long (basis_of declared seen aim) ≡ false
        on true k h = absurd (cc h)
        on false k h = let same : s ≡ seen = cc h in sym (ap (λ (x : Seen). is_too_long (basis_of declared x aim)) same) ∙ k

    by : (o : Onward) → observed declared aim.purpose observation.exchanges ≡ o → seen_end declared aim observation.exchanges ≡ Some observation.end → is_too_long (basis_of declared seen aim) ≡ false
    by (Asks request) h e = let bad : None ≡ Some observation.end = rw h at e in absurd (cc bad)
    by Strays h e = let bad : None ≡ Some observation.end = rw h at e in absurd (cc bad)
    by (Ends end) h e =
        let ends : Some (whole_end declared aim end) ≡ Some observation.end = rw h at e in
        let whole : whole_end declared aim end ≡ observation.end = cc ends in
        by_end end (whole ∙ good)

    at : IsObserved declared aim observation → is_too_long (basis_of declared seen aim) ≡ false
    at (inl e) = by (observed declared aim.purpose observation.exchanges) refl e
    at (inr e) = let bad : SeenEnd.Bad SeenFault.Memory ≡ SeenEnd.Good seen = sym e.0 ∙ good in absurd (cc bad)

kinds_length : (actions : List Action) → length (map (λ (action : Action). action.kind) actions) ≡ length actions
kinds_length [] = refl
kinds_length (action ∷ actions) = ap (λ (n : ℕ). suc n) (kinds_length actions)

pub few_actions : (declared : Declared) (observation : Observed) (plan : Plan) (limits : RunLimits) → MayBegin declared observation plan limits → length plan.actions < 4294967296
few_actions declared observation plan limits may =
    let short : length (planned_kinds (basis_of declared may.seen may.aim)) ≤ 65536 =
    ltb-false 65536 (length (planned_kinds (basis_of declared may.seen may.aim))) (fits declared may.aim observation may.seen may.was_observed may.good) in
    let kinds : length (map (λ (action : Action). action.kind) plan.actions) ≡ length (planned_kinds (basis_of declared may.seen may.aim)) = ap length may.has_plan.kinds in
    let same = kinds_length plan.actions in
    omega (arith, short, kinds, same)

-- where each action has few needs, what isn't there has few
pub few_needs : (declared : Declared) (actions : List Action) → ((a : ℕ) → a < length actions → length (needs_of actions a) + length (slot_needs declared (kind_of actions a)) < 4294967296)
    → (a : ℕ) → length (needs_of actions a) + length (slot_needs declared (kind_of actions a)) < 4294967296
few_needs declared actions each a = by (cases_lt a (length actions))
  where
    by : (a < length actions) ⊎ (length actions ≤ a) → length (needs_of actions a) + length (slot_needs declared (kind_of actions a)) < 4294967296
    by (inl l) = each a l
    by (inr l) =
        let none : length (needs_of actions a) + length (slot_needs declared (kind_of actions a)) ≡ 0 =
        ap (λ (o : Option Action). length (option_map_or (λ x. x.needs) o []) + length (slot_needs declared (option_map (λ (x : Action). x.kind) o))) (slice_get_past actions a l) in
        omega (arith, none)

-- what is found among numbers is below the last one
found_below : (p : ℕ → Bool) (i n k : ℕ) → find p (numbers_from i n) ≡ Some k → k < i + n
found_below p i zero k e = absurd (cc e)
found_below p i (suc n) k e = by (p i) (found_below p (i + 1) n k) e
  where
    by : (t : Bool) → (find p (numbers_from (i + 1) n) ≡ Some k → k < i + 1 + n) → cond t (Some i) (find p (numbers_from (i + 1) n)) ≡ Some k → k < i + suc n
    by true rest h = let same : i ≡ k = cc h in omega (arith, same)
    by false rest h = let r = rest h in omega (arith, r)

-- the starts of slots are actions
pub starts_below : (setup : Setup) (starts : List (Option ℕ)) → AreStarts setup starts → (s b : ℕ) → get_or starts s None ≡ Some b → b < length setup.actions
starts_below setup starts are s b e =
    let k = found_below (λ a. is_start_of s (kind_of setup.actions a)) 0 (length setup.actions) b (sym (are s) ∙ e) in omega (arith, k)
