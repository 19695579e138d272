-- The first of the rows of slots is the slot that is polled next.
use Rattle.std.proofs.Common.{◌≡◌, ℕ, zero, suc, ◌<◌, Bool, true, false, not, ◌&&◌, ◌||◌, List, [], ◌∷◌, length, get_or, map, Option, Some, None, if◌then◌else◌, refl, sym, ap, ◌∙◌, subst, arith}
use Rattle.std.proofs.lemmas.Bool.{true≢false}
use Rattle.std.proofs.lemmas.List.{length-map}
use Rattle.std.specs.Prelude.{nat_lt}
use Rattle.engine_types.specs.declared.Condition.{Condition}
use Rattle.engine_types.specs.declared.Entry.{Entry}
use Rattle.rank_rows.specs.Ranks.{least}
use Rattle.run_model.specs.Conditions.{counts, goal_of, has_failed, is_failed_verdict, is_met, is_pending, was_met}
use Rattle.run_model.specs.Conditions as conditions
use Rattle.run_model.specs.Journals.{Setup, polls}
use Rattle.run_model.specs.Legal.{is_looked_at, next_poll}
use Rattle.run_model.specs.declared.verdict.Verdict.{Verdict}
use Rattle.ledger_rows.specs.Facts.{askers}
use Rattle.ledger_rows.specs.Workers.{watch_key}
use Rattle.ledger_rows.proofs.Askers.{needed_is}
use Rattle.ledger_rows.proofs.Watching.{first_watched}
use Rattle.slot_rows.specs.Keys.{is_goal_open, is_needed, is_open_verdict, no_slot, slot_key, verdict_on}
use Rattle.slot_rows.specs.Slots.{AreSlots, IsSlotRow, verdict_by, verdict_in}
use Rattle.slot_rows.specs.declared.slot_row.SlotRow.{SlotRow}

failed_is : (f m : Bool) → is_failed_verdict (verdict_by f m) ≡ f
failed_is true m = refl
failed_is false true = refl
failed_is false false = refl

open_is : (f m : Bool) → is_open_verdict (verdict_by f m) ≡ (not (not f && m) && not f)
open_is true m = refl
open_is false true = refl
open_is false false = refl

module _ (setup : Setup) (past : List Entry) (s : ℕ) (row : SlotRow) (is : IsSlotRow setup past s row) where
  one_need : (n : ℕ) (v : Verdict) (c : Condition) → n ≡ askers setup (is_pending setup past) s c → v ≡ verdict_in setup past s c
      → (nat_lt 0 n && not (is_failed_verdict v)) ≡ (nat_lt 0 (askers setup (is_pending setup past) s c) && not (has_failed setup past s c))
  one_need n v c e h = ap (λ (k : ℕ). nat_lt 0 k && not (is_failed_verdict v)) e
      ∙ ap (λ (t : Bool). nat_lt 0 (askers setup (is_pending setup past) s c) && not t) (ap is_failed_verdict h ∙ failed_is (has_failed setup past s c) (was_met setup past s c))

  needed : is_needed row ≡ conditions.is_needed setup past s
  needed =
      ap (λ (t : Bool). t || (nat_lt 0 row.completed_askers && not (is_failed_verdict row.completed))) (one_need row.healthy_askers row.healthy Condition.Healthy is.healthy_askers_is is.healthy_is)
      ∙ ap (λ (t : Bool). (nat_lt 0 (askers setup (is_pending setup past) s Condition.Healthy) && not (has_failed setup past s Condition.Healthy)) || t)
      (one_need row.completed_askers row.completed Condition.Completed is.completed_askers_is is.completed_is)
      ∙ sym (needed_is setup past s)

  -- what is open of a goal, where the reports count
  open_goal : counts setup past s ≡ true → (c : Condition) → is_open_verdict (verdict_on row c) ≡ (not (is_met setup past s c) && not (has_failed setup past s c))
  open_goal k Condition.Started = ap (λ (t : Bool). not t && not (has_failed setup past s Condition.Started)) (sym k)
  open_goal k Condition.Healthy = ap is_open_verdict is.healthy_is ∙ open_is (has_failed setup past s Condition.Healthy) (was_met setup past s Condition.Healthy)
  open_goal k Condition.Completed = ap is_open_verdict is.completed_is ∙ open_is (has_failed setup past s Condition.Completed) (was_met setup past s Condition.Completed)
  open_goal k Condition.Running = ap is_open_verdict is.running_is ∙ open_is (has_failed setup past s Condition.Running) (was_met setup past s Condition.Running)

  -- a row's goal is open where this is
  abbrev open_in : Option Condition → Bool
  open_in goal = is_goal_open (record row { goal = goal })

  goal_open : counts setup past s ≡ true → is_goal_open row ≡ conditions.is_goal_open setup past s
  goal_open k = ap open_in is.goal_is ∙ by setup.limits.wait
    where
      by : (t : Bool) → open_in (if t then Some (goal_of setup s) else None) ≡ (t && not (is_met setup past s (goal_of setup s)) && not (has_failed setup past s (goal_of setup s)))
      by true = open_goal k (goal_of setup s)
      by false = refl

  pub key_is : slot_key row ≡ watch_key setup past s
  key_is = by (counts setup past s) refl
    where
      open_by : Bool → Bool
      open_by t = t && (conditions.is_needed setup past s || conditions.is_goal_open setup past s) && not (is_looked_at setup past s)

      by : (t : Bool) → counts setup past s ≡ t → slot_key row ≡ watch_key setup past s
      by true k =
          ap (λ (t : Bool). if (t && (is_needed row || is_goal_open row) && not row.out) then Some row.polls else None) (is.counts_is ∙ k)
          ∙ ap (λ (t : Bool). if (true && (t || is_goal_open row) && not row.out) then Some row.polls else None) needed
          ∙ ap (λ (t : Bool). if (true && (conditions.is_needed setup past s || t) && not row.out) then Some row.polls else None) (goal_open k)
          ∙ ap (λ (t : Bool). if (true && (conditions.is_needed setup past s || conditions.is_goal_open setup past s) && not t) then Some row.polls else None) is.out_is
          ∙ ap (λ (n : ℕ). if (true && (conditions.is_needed setup past s || conditions.is_goal_open setup past s) && not (is_looked_at setup past s)) then Some n else None) is.polls_is
          ∙ sym (ap (λ (t : Bool). if (t && (conditions.is_needed setup past s || conditions.is_goal_open setup past s) && not (is_looked_at setup past s)) then Some (polls past s) else None) k)
      by false k =
          ap (λ (t : Bool). if (t && (is_needed row || is_goal_open row) && not row.out) then Some row.polls else None) (is.counts_is ∙ k)
          ∙ sym (ap (λ (t : Bool). if (t && (conditions.is_needed setup past s || conditions.is_goal_open setup past s) && not (is_looked_at setup past s)) then Some (polls past s) else None) k)

get_mapped : (rows : List SlotRow) (s : ℕ) → s < length rows → get_or (map slot_key rows) s None ≡ slot_key (get_or rows s no_slot)
get_mapped [] s l = absurd (omega arith)
get_mapped (x ∷ xs) zero l = refl
get_mapped (x ∷ xs) (suc s) l = get_mapped xs s (omega arith)

pub first_polled : (setup : Setup) (past : List Entry) (rows : List SlotRow) → AreSlots setup past rows → least (map slot_key rows) ≡ next_poll setup past
first_polled setup past rows are = first_watched setup past (map slot_key rows) (length-map rows slot_key ∙ are.size)
    (λ s l. get_mapped rows s (omega (arith, l, are.size)) ∙ key_is setup past s (get_or rows s no_slot) (are.each s l))
