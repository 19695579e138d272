-- What actions wait for is there.
use Rattle.std.proofs.Common.{◌≡◌, ◌⊎◌, ℕ, ◌<◌, ◌≤◌, Bool, true, false, ◌&&◌, ◌==◌, List, [], length, get_or, slice_get, Option, Some, None, if◌then◌else◌, refl, ap, ◌∙◌, inl, inr, arith}
use Rattle.std.proofs.lemmas.Bool.{cases_lt}
use Rattle.std.specs.Option.{option_map_or}
use Rattle.engine_types.specs.declared.Action.{Action}
use Rattle.engine_types.specs.declared.Declared.{Declared}
use Rattle.engine_types.specs.declared.Need.{Need}
use Rattle.run_model.specs.EngineRules.{Among}
use Rattle.run_model.specs.Plans.{kind_of, needs_of, slot_needs}
use Rattle.ledger_rows.specs.Counts.{counted}
use Rattle.ledger_rows.proofs.Watching.{differs}
use Rattle.plan_needs.specs.Waits.{begins_with_needs, is_wanted, needs_for, waited, waits_for}
use Rattle.plan_needs.specs.declared.wait.Wait.{Wait}
use Rattle.start_rows.proofs.Counts.{counted_none, counted_there}

module _ (wait : Wait) (declared : Declared) (actions : List Action) (starts : List (Option ℕ)) (needs_there : (a b : ℕ) → Among (needs_of actions a) b → b < length actions)
    (starts_there : (s b : ℕ) → get_or starts s None ≡ Some b → b < length actions) (b : ℕ) (past : length actions ≤ b) where
  no_need : (a : ℕ) → counted (λ x. x == b) (needs_for wait (needs_of actions a)) ≡ 0
  no_need a = on (begins_with_needs wait)
    where
      on : (t : Bool) → counted (λ x. x == b) (if t then needs_of actions a else []) ≡ 0
      on true = counted_none (λ x. x == b) (needs_of actions a) (λ x m. differs x b (λ (e : x ≡ b). let l = needs_there a x m in omega (arith, l, past, e)))
      on false = refl

  no_start : (need : Need) → waits_for wait starts b need ≡ false
  no_start need = ap (λ (t : Bool). is_wanted wait need && t) (by (get_or starts need.slot None) refl) ∙ neither (is_wanted wait need)
    where
      by : (o : Option ℕ) → get_or starts need.slot None ≡ o → option_map_or (λ x. x == b) o false ≡ false
      by None e = refl
      by (Some x) e = differs x b (λ (same : x ≡ b). let l = starts_there need.slot x e in omega (arith, l, past, same))

      neither : (t : Bool) → (t && false) ≡ false
      neither true = refl
      neither false = refl

  pub waited_past : (a : ℕ) → waited wait declared actions starts a b ≡ 0
  waited_past a =
      let n = no_need a in
      let s = counted_none (waits_for wait starts b) (slot_needs declared (kind_of actions a)) (λ need m. no_start need) in
      omega (arith, n, s)

pub waits_there : (wait : Wait) (declared : Declared) (actions : List Action) (starts : List (Option ℕ)) (waits : List (List ℕ)) → ((a b : ℕ) → Among (needs_of actions a) b → b < length actions)
    → ((s b : ℕ) → get_or starts s None ≡ Some b → b < length actions) → ((a x : ℕ) → counted (λ b. b == x) (get_or waits a []) ≡ waited wait declared actions starts a x)
    → (a i b : ℕ) → slice_get (get_or waits a []) i ≡ Some b → b < length actions
waits_there wait declared actions starts waits needs_there starts_there each a i b e = by (cases_lt b (length actions))
  where
    by : (b < length actions) ⊎ (length actions ≤ b) → b < length actions
    by (inl l) = l
    by (inr l) = absurd (counted_there (get_or waits a []) i b e (each a b ∙ waited_past wait declared actions starts needs_there starts_there b l a))
