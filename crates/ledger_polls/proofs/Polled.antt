-- What the end of a poll leaves of the rows.
use Rattle.std.proofs.Common.{◌≡◌, ◌⊎◌, ℕ, ◌+◌, ◌<◌, Bool, true, false, not, ◌&&◌, ◌||◌, ◌==◌, List, [], ◌∷◌, ◌++◌, length, get_or, set, reverse, Option, Some, None, if◌then◌else◌, refl, sym, ap, ◌∙◌, subst, inl, inr, arith}
use Rattle.std.proofs.lemmas.Bool.{cases_eq, eq-eqb, eqb-true, true≢false}
use Rattle.std.proofs.lemmas.Grind.{common_steps}
use Rattle.std.proofs.lemmas.List.{get_or-set_other, get_or-set_same}
use Rattle.std.specs.List.{list_any}
use Rattle.std.specs.Option.{option_map_or}
use Rattle.engine_types.specs.declared.Aim.{Aim}
use Rattle.engine_types.specs.declared.Condition.{Condition}
use Rattle.engine_types.specs.declared.Entry.{Entry}
use Rattle.engine_types.specs.declared.Outcome.{Outcome}
use Rattle.run_model.specs.Conditions.{counts, has_failed, is_failed_verdict, is_met_verdict, is_pending, is_reported, was_met}
use Rattle.run_model.specs.Journals.{Holding, Nothing, Setup, Standing, Watch, holding, is_free, is_watch_of, is_well, standing}
use Rattle.run_model.specs.Legal.{IsLegal, is_looked_at}
use Rattle.run_model.specs.Numbers.{numbers_from}
use Rattle.run_model.specs.Plans.{IsOrderly, IsWhole, is_running, start_of}
use Rattle.run_model.specs.declared.verdict.Verdict.{Verdict}
use Rattle.journal_laws.proofs.Reports.{failed_counts, met_counts, never_fails_started, polled}
use Rattle.ledger_rows.specs.ActionRows.Values.{Actions}
use Rattle.ledger_rows.specs.Entries.{RowsSay}
use Rattle.ledger_rows.specs.Facts.{AreSound, Facts, facts_of}
use Rattle.ledger_rows.specs.Rows.{AreRows, blocked_in, is_pending_in, was_blocked}
use Rattle.ledger_rows.proofs.Changes.{rows_kept}
use Rattle.ledger_rows.proofs.Fixed.{any_same}
use Rattle.ledger_rows.proofs.Steps.{functions_same}
use Rattle.ledger_rows.proofs.Turns.{said_after}
use Rattle.ledger_rows.proofs.Watching.{differs}
use Rattle.slot_rows.specs.Keys.{no_slot}
use Rattle.slot_rows.specs.Reports.{reported, verdict_after, verdict_with}
use Rattle.slot_rows.specs.Slots.{AreSlots, verdict_by, verdict_in}
use Rattle.slot_rows.specs.declared.slot_row.SlotRow.{SlotRow}
use Rattle.slot_rows.proofs.Reporting.{actions_stay, elsewhere, looked_at, there}
use Rattle.ledger_ends.specs.Retiring.{AreSlotsWhile, IsRowWhile, still_asks}
use Rattle.ledger_ends.proofs.Askers.{while_of, while_same}
use Rattle.ledger_ends.proofs.Freshening.{marked_gone, still_same}
use Rattle.ledger_polls.specs.Verdicts.{facts_by, may_follow, with_verdict}
use Rattle.ledger_polls.proofs.Resting.{rests}

failed_is : (f m : Bool) → is_failed_verdict (verdict_by f m) ≡ f
failed_is true m = refl
failed_is false true = refl
failed_is false false = refl

met_is : (f m : Bool) → is_met_verdict (verdict_by f m) ≡ (not f && m)
met_is true m = refl
met_is false true = refl
met_is false false = refl

open_met : (f m : Bool) → (not f && (not f && m)) ≡ (not f && m)
open_met true m = refl
open_met false m = refl

-- a verdict follows the one before it
pub follows : (news : Option Verdict) (v : Verdict) → may_follow v (verdict_with news v) ≡ true
follows None Verdict.NotYet = refl
follows None Verdict.Met = refl
follows None Verdict.Failed = refl
follows (Some Verdict.NotYet) Verdict.NotYet = refl
follows (Some Verdict.NotYet) Verdict.Met = refl
follows (Some Verdict.NotYet) Verdict.Failed = refl
follows (Some Verdict.Met) Verdict.NotYet = refl
follows (Some Verdict.Met) Verdict.Met = refl
follows (Some Verdict.Met) Verdict.Failed = refl
follows (Some Verdict.Failed) Verdict.NotYet = refl
follows (Some Verdict.Failed) Verdict.Met = refl
follows (Some Verdict.Failed) Verdict.Failed = refl

-- another verdict of a slot alone
pub with_other : (v : ℕ → Condition → Verdict) (s t : ℕ) (c d : Condition) (x : Verdict) → (t ≡ s → ⊥) → with_verdict v s c x t d ≡ v t d
with_other v s t c d x n = ap (λ (b : Bool). if (b && Rattle.ledger_rows.specs.Facts.same_condition d c) then x else v t d) (differs t s n)

-- and of a condition alone
pub with_apart : (v : ℕ → Condition → Verdict) (s t : ℕ) (c d : Condition) (x : Verdict) → Rattle.ledger_rows.specs.Facts.same_condition d c ≡ false → with_verdict v s c x t d ≡ v t d
with_apart v s t c d x h = ap (λ (b : Bool). if ((t == s) && b) then x else v t d) h ∙ by (t == s)
  where
    by : (b : Bool) → (if (b && false) then x else v t d) ≡ v t d
    by true = refl
    by false = refl

pub with_here : (v : ℕ → Condition → Verdict) (s : ℕ) (c : Condition) (x : Verdict) → Rattle.ledger_rows.specs.Facts.same_condition c c ≡ true → with_verdict v s c x s c ≡ x
with_here v s c x h = ap (λ (b : Bool). if (b && Rattle.ledger_rows.specs.Facts.same_condition c c) then x else v s c) (eq-eqb s s refl) ∙ ap (λ (b : Bool). if b then x else v s c) h

module _ (aim : Aim) (setup : Setup) (journal : List Entry) (w s : ℕ) (outcome : Outcome) (legal : IsLegal aim setup (reverse journal)) (held : holding (reverse journal) w ≡ Watch s) (whole : IsWhole setup.declared) where
  abbrev past : List Entry
  past = reverse journal

  abbrev entry : Entry
  entry = Entry.Ended w outcome

  abbrev first : ℕ → Condition → Verdict
  first = verdict_in setup past

  abbrev second : ℕ → Condition → Verdict
  second = with_verdict first s Condition.Healthy (verdict_after Condition.Healthy outcome (first s Condition.Healthy))

  abbrev third : ℕ → Condition → Verdict
  third = with_verdict second s Condition.Completed (verdict_after Condition.Completed outcome (first s Condition.Completed))

  pub counts_now : counts setup past s ≡ true
  counts_now = (polled aim setup past w s legal held).1

  -- verdicts that differ on this slot alone, and not on Started, are sound
  pub sound_by : (v : ℕ → Condition → Verdict) → ((t : ℕ) (c : Condition) → (t ≡ s → ⊥) → v t c ≡ first t c) → ((t : ℕ) → v t Condition.Started ≡ first t Condition.Started) → AreSound setup (facts_by (standing setup past) v)
  sound_by v others started = record {
    started = λ t. ap is_failed_verdict (started t) ∙ failed_is (has_failed setup past t Condition.Started) (was_met setup past t Condition.Started) ∙ never_fails_started setup past t;
    failed = λ t c h. on_failed t c h (cases_eq t s);
    met = λ t c h. on_met t c h (cases_eq t s);
  }
    where
      here : (t : ℕ) → t ≡ s → counts setup past t ≡ true
      here t e = ap (counts setup past) e ∙ counts_now

      on_failed : (t : ℕ) (c : Condition) → is_failed_verdict (v t c) ≡ true → (t ≡ s) ⊎ (t ≡ s → ⊥) → counts setup past t ≡ true
      on_failed t c h (inl e) = here t e
      on_failed t c h (inr n) = failed_counts aim setup past t c legal (sym (ap is_failed_verdict (others t c n) ∙ failed_is (has_failed setup past t c) (was_met setup past t c)) ∙ h)

      on_met : (t : ℕ) (c : Condition) → is_met_verdict (v t c) ≡ true → (t ≡ s) ⊎ (t ≡ s → ⊥) → counts setup past t ≡ true
      on_met t c h (inl e) = here t e
      on_met t c h (inr n) = met_counts aim setup past t c legal (last (not (has_failed setup past t c)) (was_met setup past t c) (sym (ap is_met_verdict (others t c n) ∙ met_is (has_failed setup past t c) (was_met setup past t c)) ∙ h))
        where
          last : (a b : Bool) → (a && b) ≡ true → b ≡ true
          last true b k = k
          last false b k = absurd (true≢false (sym k))

  pub second_sound : AreSound setup (facts_by (standing setup past) second)
  second_sound = sound_by second (λ t c n. with_other first s t Condition.Healthy c _ n) (λ t. with_apart first s t Condition.Healthy Condition.Started _ refl)

  pub third_sound : AreSound setup (facts_by (standing setup past) third)
  third_sound = sound_by third (λ t c n. with_other second s t Condition.Completed c _ n ∙ with_other first s t Condition.Healthy c _ n)
      (λ t. with_apart second s t Condition.Completed Condition.Started _ refl ∙ with_apart first s t Condition.Healthy Condition.Started _ refl)

  -- the rows rest on the verdicts alone
  pub by_verdicts : (rows : Actions) → RowsSay setup journal rows → AreRows setup (facts_by (standing setup past) first) journal rows
  by_verdicts rows said = rests setup whole (standing setup past) (has_failed setup past) (was_met setup past) (λ t c. is_failed_verdict (first t c)) (λ t c. is_met_verdict (first t c))
      (λ t c r. failed_is (has_failed setup past t c) (was_met setup past t c))
      (λ t c r. ap (λ (x : Bool). not x && is_met_verdict (first t c)) (failed_is (has_failed setup past t c) (was_met setup past t c))
      ∙ ap (λ (x : Bool). not (has_failed setup past t c) && x) (met_is (has_failed setup past t c) (was_met setup past t c)) ∙ open_met (has_failed setup past t c) (was_met setup past t c)) journal rows said

  -- the last verdicts are those of the journal with the poll's end
  last_is : (t : ℕ) (c : Condition) → is_reported c ≡ true → third t c ≡ verdict_in setup (entry ∷ past) t c
  last_is t c r = on t c r (cases_eq t s)
    where
      on : (t : ℕ) (c : Condition) → is_reported c ≡ true → (t ≡ s) ⊎ (t ≡ s → ⊥) → third t c ≡ verdict_in setup (entry ∷ past) t c
      on t c r (inr n) = with_other second s t Condition.Completed c _ n ∙ with_other first s t Condition.Healthy c _ n ∙ sym (elsewhere aim setup past w s outcome legal held t c n)
      on t Condition.Healthy r (inl e) = subst (λ (k : ℕ). third k Condition.Healthy ≡ verdict_in setup (entry ∷ past) k Condition.Healthy) (sym e)
          (with_apart second s s Condition.Completed Condition.Healthy _ refl ∙ with_here first s Condition.Healthy _ refl ∙ sym (there aim setup past w s outcome legal held Condition.Healthy refl))
      on t Condition.Completed r (inl e) = subst (λ (k : ℕ). third k Condition.Completed ≡ verdict_in setup (entry ∷ past) k Condition.Completed) (sym e)
          (with_here second s Condition.Completed _ refl ∙ sym (there aim setup past w s outcome legal held Condition.Completed refl))
      on t Condition.Started r (inl e) = absurd (true≢false (sym r))
      on t Condition.Running r (inl e) = absurd (true≢false (sym r))

  last_failed : (t : ℕ) (c : Condition) → is_running c ≡ false → has_failed setup (entry ∷ past) t c ≡ is_failed_verdict (third t c)
  last_failed t Condition.Healthy r = sym (ap is_failed_verdict (last_is t Condition.Healthy refl) ∙ failed_is (has_failed setup (entry ∷ past) t Condition.Healthy) (was_met setup (entry ∷ past) t Condition.Healthy))
  last_failed t Condition.Completed r = sym (ap is_failed_verdict (last_is t Condition.Completed refl) ∙ failed_is (has_failed setup (entry ∷ past) t Condition.Completed) (was_met setup (entry ∷ past) t Condition.Completed))
  last_failed t Condition.Started r = never_fails_started setup (entry ∷ past) t ∙ sym (third_sound.started t)
  last_failed t Condition.Running r = absurd (true≢false r)

  last_met : (t : ℕ) (c : Condition) → is_reported c ≡ true → (not (has_failed setup (entry ∷ past) t c) && was_met setup (entry ∷ past) t c) ≡ (not (is_failed_verdict (third t c)) && is_met_verdict (third t c))
  last_met t c r = sym (ap (λ (x : Verdict). not (is_failed_verdict x) && is_met_verdict x) (last_is t c r) ∙ both (has_failed setup (entry ∷ past) t c) (was_met setup (entry ∷ past) t c))
    where
      both : (f m : Bool) → (not (is_failed_verdict (verdict_by f m)) && is_met_verdict (verdict_by f m)) ≡ (not f && m)
      both true m = refl
      both false true = refl
      both false false = refl

  stands_as : standing setup (entry ∷ past) ≡ standing setup past
  stands_as = functions_same (standing setup (entry ∷ past)) (standing setup past) (λ a. actions_stay setup past w s a outcome held)

  pub rows_now : (rows : Actions) → AreRows setup (facts_by (standing setup past) third) journal rows → AreRows setup (facts_of setup (entry ∷ past)) journal rows
  rows_now rows are =
      subst (λ (p : ℕ → Standing). AreRows setup (record { stands = p; failed = has_failed setup (entry ∷ past); met = was_met setup (entry ∷ past) }) journal rows) (sym stands_as)
      (rests setup whole (standing setup past) (λ t c. is_failed_verdict (third t c)) (λ t c. is_met_verdict (third t c)) (has_failed setup (entry ∷ past)) (was_met setup (entry ∷ past)) last_failed last_met journal rows are)

  pub said_now : (rows : Actions) → AreRows setup (facts_by (standing setup past) third) journal rows → RowsSay setup (journal ++ entry ∷ []) rows
  said_now rows are = said_after setup journal entry rows (rows_kept setup (facts_of setup (entry ∷ past)) journal entry rows (rows_now rows are))

  -- what is marked as blocked isn't to come any more
  pub gone : IsOrderly setup.declared setup.actions → (rows : Actions) → AreRows setup (facts_by (standing setup past) third) journal rows → (a : ℕ) → blocked_in rows a ≡ true → is_pending setup (entry ∷ past) a ≡ false
  gone orderly rows are a h = marked_gone setup (entry ∷ past) journal rows orderly (rows_now rows are) a h

  -- the rows of slots with the report, while those that it blocks still ask
  module _ (slots : List SlotRow) (are : AreSlots setup past slots) (there_is : s < length slots) where
    abbrev after : List SlotRow
    after = set slots s (reported (get_or slots s no_slot) outcome)

    counts_as : (t : ℕ) → counts setup (entry ∷ past) t ≡ counts setup past t
    counts_as t = ap (λ (p : ℕ → Standing). option_map_or (λ a. is_well (p a)) (start_of setup.actions t) true) stands_as

    seen_there : (t : ℕ) → (t ≡ s → ⊥) → is_looked_at setup (entry ∷ past) t ≡ is_looked_at setup past t
    seen_there t n = any_same (λ v. is_watch_of t (holding (entry ∷ past) v)) (λ v. is_watch_of t (holding past v)) (numbers_from 0 setup.limits.workers) (λ v m. on v (w == v) refl)
      where
        on : (v : ℕ) (x : Bool) → (w == v) ≡ x → is_watch_of t (if x then Nothing else holding past v) ≡ is_watch_of t (holding past v)
        on v true e = sym (ap (is_watch_of t) (ap (holding past) (sym (eqb-true w v e)) ∙ held) ∙ differs s t (λ k. n (sym k)))
        on v false e = refl

    pub polled_slots : AreSlotsWhile setup (entry ∷ past) (is_pending setup past) after
    polled_slots = record { size = let k : length (set slots s (reported (get_or slots s no_slot) outcome)) ≡ length slots = grind (arith, common_steps) in k ∙ are.size; each = λ t l. on t l (cases_eq t s) }
      where
        old_rows : AreSlotsWhile setup past (is_pending setup past) slots
        old_rows = while_of setup past slots are

        other : (t : ℕ) → (t ≡ s → ⊥) → IsRowWhile setup past (is_pending setup past) t (get_or slots t no_slot) → IsRowWhile setup (entry ∷ past) (is_pending setup past) t (get_or slots t no_slot)
        other t n old = record {
          counts_is = old.counts_is ∙ sym (counts_as t);
          out_is = old.out_is ∙ sym (seen_there t n);
          polls_is = old.polls_is;
          healthy_is = old.healthy_is ∙ sym (elsewhere aim setup past w s outcome legal held t Condition.Healthy n);
          completed_is = old.completed_is ∙ sym (elsewhere aim setup past w s outcome legal held t Condition.Completed n);
          running_is = old.running_is ∙ sym (elsewhere aim setup past w s outcome legal held t Condition.Running n);
          asked_is = old.asked_is;
          goal_is = old.goal_is;
        }

        this : (row : SlotRow) → IsRowWhile setup past (is_pending setup past) s row → IsRowWhile setup (entry ∷ past) (is_pending setup past) s (reported row outcome)
        this row old = record {
          counts_is = old.counts_is ∙ sym (counts_as s);
          out_is = sym (looked_at aim setup past w s outcome legal held);
          polls_is = old.polls_is;
          healthy_is = ap (verdict_after Condition.Healthy outcome) old.healthy_is ∙ sym (there aim setup past w s outcome legal held Condition.Healthy refl);
          completed_is = ap (verdict_after Condition.Completed outcome) old.completed_is ∙ sym (there aim setup past w s outcome legal held Condition.Completed refl);
          running_is = ap (verdict_after Condition.Running outcome) old.running_is ∙ sym (there aim setup past w s outcome legal held Condition.Running refl);
          asked_is = asked;
          goal_is = old.goal_is;
        }
          where
            asked : (c : Condition) → is_reported c ≡ true → Rattle.ledger_ends.specs.Retiring.askers_on c (reported row outcome) ≡ Rattle.ledger_rows.specs.Facts.askers setup (is_pending setup past) s c
            asked Condition.Healthy r = old.asked_is Condition.Healthy refl
            asked Condition.Completed r = old.asked_is Condition.Completed refl
            asked Condition.Started r = absurd (true≢false (sym r))
            asked Condition.Running r = absurd (true≢false (sym r))

        on : (t : ℕ) → t < length setup.declared.slots → (t ≡ s) ⊎ (t ≡ s → ⊥) → IsRowWhile setup (entry ∷ past) (is_pending setup past) t (get_or after t no_slot)
        on t l (inr n) = subst (λ (r : SlotRow). IsRowWhile setup (entry ∷ past) (is_pending setup past) t r) (sym (get_or-set_other slots s t (reported (get_or slots s no_slot) outcome) no_slot n)) (other t n (old_rows.each t l))
        on t l (inl e) = subst (λ (k : ℕ). IsRowWhile setup (entry ∷ past) (is_pending setup past) k (get_or after k no_slot)) (sym e)
            (subst (λ (r : SlotRow). IsRowWhile setup (entry ∷ past) (is_pending setup past) s r) (sym (get_or-set_same slots s (reported (get_or slots s no_slot) outcome) no_slot there_is))
            (this (get_or slots s no_slot) (old_rows.each s (let z = are.size in omega (arith, there_is, z)))))

    pub asking : (orderly : IsOrderly setup.declared setup.actions) (rows new : Actions) (fresh more : List (Option ℕ)) → RowsSay setup journal rows → AreRows setup (facts_by (standing setup past) third) journal new
        → ((a : ℕ) → was_blocked new more a ≡ was_blocked rows fresh a) → ((a : ℕ) → is_pending_in fresh a ≡ false)
        → AreSlotsWhile setup (entry ∷ past) (still_asks (record { setup = setup; past = entry ∷ past }) new more) after
    asking orderly rows new fresh more said turned was none = while_same setup (entry ∷ past) (is_pending setup past) (still_asks (record { setup = setup; past = entry ∷ past }) new more) after
        (still_same setup past (entry ∷ past) journal journal rows new fresh more orderly said (rows_now new turned) (λ a. ap (λ (p : ℕ → Standing). is_free (p a)) stands_as) was none) polled_slots
