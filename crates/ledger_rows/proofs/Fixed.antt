-- What is blocked is the one answer to its equation, where the plan is orderly.
use Rattle.std.proofs.Common.{◌≡◌, ◌⊎◌, ℕ, zero, suc, ◌+◌, ◌<◌, ◌≤◌, Bool, true, false, ◌&&◌, ◌||◌, List, [], ◌∷◌, length, Option, Some, None, slice_get, refl, sym, ap, ◌∙◌, inl, inr, arith}
use Rattle.std.proofs.lemmas.Bool.{cases_lt}
use Rattle.std.proofs.lemmas.Option.{slice_get_past}
use Rattle.std.specs.List.{list_any, list_all}
use Rattle.std.specs.Option.{option_map_or}
use Rattle.engine_types.specs.declared.Action.{Action}
use Rattle.engine_types.specs.declared.Entry.{Entry}
use Rattle.run_model.specs.Conditions.{blocked_within, is_blocked}
use Rattle.run_model.specs.EngineRules.{Among}
use Rattle.run_model.specs.Journals.{Setup, is_free, standing}
use Rattle.run_model.specs.Plans.{IsOrderly, kind_of, needs_of, slot_needs, start_of}
use Rattle.ledger_rows.specs.Facts.{AreBlocked, Facts, facts_of, has_cause, lost_by, need_lost_by}

pub any_same : {X : Type 0} (f g : X → Bool) (xs : List X) → ((x : X) → Among xs x → f x ≡ g x) → list_any f xs ≡ list_any g xs
any_same f g [] each = refl
any_same f g (x ∷ xs) each = ap (λ (t : Bool). t || list_any f xs) (each x (inl refl)) ∙ ap (λ (t : Bool). g x || t) (any_same f g xs (λ y m. each y (inr m)))

module _ (setup : Setup) (orderly : IsOrderly setup.declared setup.actions) where
  -- a cause looks only at what stands before
  pub cause_same : (facts : Facts) (p q : ℕ → Bool) (a : ℕ) → ((b : ℕ) → orderly.rank b < orderly.rank a → p b ≡ q b) → has_cause setup facts p a ≡ has_cause setup facts q a
  cause_same facts p q a same =
      ap (λ (t : Bool). t || list_any (need_lost_by setup facts p) (slot_needs setup.declared (kind_of setup.actions a))) needs
      ∙ ap (λ (t : Bool). list_any (lost_by facts q) (needs_of setup.actions a) || t) slots
    where
      lost : (b : ℕ) → p b ≡ q b → lost_by facts p b ≡ lost_by facts q b
      lost b e = rw e refl

      needs : list_any (lost_by facts p) (needs_of setup.actions a) ≡ list_any (lost_by facts q) (needs_of setup.actions a)
      needs = any_same (lost_by facts p) (lost_by facts q) (needs_of setup.actions a) (λ b m. lost b (same b (orderly.needs a b m)))

      start : (s : ℕ) (o : Option ℕ) → start_of setup.actions s ≡ o → ((b : ℕ) → o ≡ Some b → p b ≡ q b) → option_map_or (lost_by facts p) o false ≡ option_map_or (lost_by facts q) o false
      start s None e each = refl
      start s (Some b) e each = lost b (each b refl)

      slots : list_any (need_lost_by setup facts p) (slot_needs setup.declared (kind_of setup.actions a)) ≡ list_any (need_lost_by setup facts q) (slot_needs setup.declared (kind_of setup.actions a))
      slots = any_same (need_lost_by setup facts p) (need_lost_by setup facts q) (slot_needs setup.declared (kind_of setup.actions a))
          (λ need m. ap (λ (t : Bool). need.required && (facts.failed need.slot need.condition || t))
          (start need.slot (start_of setup.actions need.slot) refl (λ b e. same b (orderly.starts a b need m e))))

  -- there is at most one answer
  unique_below : (facts : Facts) (p q : ℕ → Bool) → AreBlocked setup facts p → AreBlocked setup facts q → (n a : ℕ) → orderly.rank a < n → p a ≡ q a
  unique_below facts p q hp hq zero a l = absurd (omega arith)
  unique_below facts p q hp hq (suc n) a l =
      hp.each a ∙ ap (λ (t : Bool). is_free (facts.stands a) && t) (cause_same facts p q a (λ b m. unique_below facts p q hp hq n b (omega (arith, l, m)))) ∙ sym (hq.each a)

  pub unique : (facts : Facts) (p q : ℕ → Bool) → AreBlocked setup facts p → AreBlocked setup facts q → (a : ℕ) → p a ≡ q a
  unique facts p q hp hq a = unique_below facts p q hp hq (orderly.rank a + 1) a (omega arith)

  -- more fuel changes nothing once there is enough
  fueled : (past : List Entry) (k n a : ℕ) → orderly.rank a < k → orderly.rank a < n → blocked_within k setup past a ≡ blocked_within n setup past a
  fueled past zero n a l m = absurd (omega arith)
  fueled past (suc k) zero a l m = absurd (omega arith)
  fueled past (suc k) (suc n) a l m =
      ap (λ (t : Bool). is_free (standing setup past a) && t)
      (cause_same (facts_of setup past) (blocked_within k setup past) (blocked_within n setup past) a (λ b r. fueled past k n b (omega (arith, l, r)) (omega (arith, m, r))))

  -- what is blocked by chains that are no longer than the plan is that answer
  pub are_blocked : (past : List Entry) → AreBlocked setup (facts_of setup past) (is_blocked setup past)
  are_blocked past = record { each = λ a. on a (cases_lt a (length setup.actions)) }
    where
      step : (k a : ℕ) → orderly.rank a < k → blocked_within k setup past a ≡ (is_free (standing setup past a) && has_cause setup (facts_of setup past) (blocked_within k setup past) a)
      step zero a l = absurd (omega arith)
      step (suc k) a l =
          ap (λ (t : Bool). is_free (standing setup past a) && t)
          (cause_same (facts_of setup past) (blocked_within k setup past) (blocked_within (suc k) setup past) a (λ b r. fueled past k (suc k) b (omega (arith, l, r)) (omega (arith, l, r))))

      nothing : (o : Option Action) (t : Bool) → o ≡ None → (t && (list_any (lost_by (facts_of setup past) (is_blocked setup past)) (option_map_or (λ action. action.needs) o [])
          || list_any (need_lost_by setup (facts_of setup past) (is_blocked setup past)) (slot_needs setup.declared (Rattle.std.specs.Prelude.option_map (λ action. action.kind) o)))) ≡ false
      nothing None true e = refl
      nothing None false e = refl
      nothing (Some x) t e = absurd (cc e)

      none : (k a : ℕ) → slice_get setup.actions a ≡ None → blocked_within k setup past a ≡ false
      none zero a e = refl
      none (suc k) a e = rw e (and_false (is_free (standing setup past a)))
        where
          and_false : (t : Bool) → (t && false) ≡ false
          and_false true = refl
          and_false false = refl

      on : (a : ℕ) → (a < length setup.actions) ⊎ (length setup.actions ≤ a) → is_blocked setup past a ≡ (is_free (standing setup past a) && has_cause setup (facts_of setup past) (is_blocked setup past) a)
      on a (inl l) = step (length setup.actions) a (orderly.within a l)
      on a (inr l) = none (length setup.actions) a (slice_get_past setup.actions a l) ∙ sym (nothing (slice_get setup.actions a) (is_free (standing setup past a)) (slice_get_past setup.actions a l))
