-- What a ledger's rows say after the good end of an action.
use Rattle.std.proofs.Common.{◌≡◌, ◌⊎◌, ℕ, zero, suc, ◌+◌, ◌<◌, ◌≤◌, Bool, true, false, cond, not, ◌&&◌, ◌==◌, List, [], ◌∷◌, ◌++◌, length, reverse, get_or, set, Option, Some, None, if◌then◌else◌, refl, sym, ap, ◌∙◌, subst, inl, inr, arith}
use Rattle.std.proofs.lemmas.Bool.{cases_eq, eq-eqb, eqb-true}
use Rattle.std.proofs.lemmas.Grind.{common_steps}
use Rattle.std.proofs.lemmas.List.{get_or-set_other, get_or-set_same}
use Rattle.std.specs.Option.{option_map_or}
use Rattle.std.specs.Prelude.{find}
use Rattle.engine_types.specs.declared.Aim.{Aim}
use Rattle.tree_base.specs.Reserved.{Reserved}
use Rattle.engine_types.specs.declared.ActionKind.{ActionKind}
use Rattle.engine_types.specs.declared.Entry.{Entry}
use Rattle.engine_types.specs.declared.Outcome.{Outcome}
use Rattle.run_model.specs.Conditions.{counts, is_blocked, is_pending}
use Rattle.run_model.specs.Journals.{Free, Nothing, Out, Setup, Standing, Watch, Well, Work, ended_as, holding, is_badly, is_free, is_open, is_watch_of, is_well, standing}
use Rattle.run_model.specs.Legal.{IsLegal, is_looked_at}
use Rattle.run_model.specs.Numbers.{numbers_from}
use Rattle.run_model.specs.Plans.{is_start_of, kind_of, start_of}
use Rattle.journal_laws.proofs.Holders.{is_held}
use Rattle.ledger_rows.specs.ActionRows.Values.{Actions}
use Rattle.ledger_rows.specs.Entries.{IsDueTo, RowsSay}
use Rattle.ledger_rows.specs.Facts.{facts_of, has_cause}
use Rattle.ledger_rows.specs.Workers.{no_worker}
use Rattle.ledger_rows.specs.declared.worker_row.WorkerRow.{WorkerRow}
use Rattle.ledger_rows.proofs.Changes.{blocked_kept}
use Rattle.ledger_rows.proofs.Entering.{ended_changes, ended_stands}
use Rattle.ledger_rows.proofs.Fixed.{any_same, are_blocked, unique}
use Rattle.ledger_rows.proofs.Steps.{functions_same}
use Rattle.ledger_rows.proofs.Watching.{differs}
use Rattle.slot_rows.specs.Keys.{no_slot}
use Rattle.slot_rows.specs.Slots.{AreSlots, IsSlotRow}
use Rattle.slot_rows.specs.declared.slot_row.SlotRow.{SlotRow}
use Rattle.ledger_core.specs.Ledgers.{IsLedger, StartsAreSingle, counting}
use Rattle.ledger_core.proofs.Entries.{Enters, KeepsPending, entered, room_of, row_after}

-- what is found among numbers passes the test
pub found_passes : (p : ℕ → Bool) (i n k : ℕ) → find p (numbers_from i n) ≡ Some k → p k ≡ true
found_passes p i zero k e = absurd (cc e)
found_passes p i (suc n) k e = by (p i) refl (found_passes p (i + 1) n k) e
  where
    by : (t : Bool) → p i ≡ t → (find p (numbers_from (i + 1) n) ≡ Some k → p k ≡ true) → cond t (Some i) (find p (numbers_from (i + 1) n)) ≡ Some k → p k ≡ true
    by true h rest f = let same : i ≡ k = cc f in subst (λ (x : ℕ). p x ≡ true) same h
    by false h rest f = rest f

-- a start of a slot is of that kind
start_kind : (o : Option ActionKind) (s : ℕ) → is_start_of s o ≡ true → o ≡ Some (ActionKind.StartSlot s)
start_kind (Some (ActionKind.StartSlot t)) s h = ap (λ (x : ℕ). Some (ActionKind.StartSlot x)) (eqb-true t s h)
start_kind (Some kind) s h = absurd (cc h)
start_kind None s h = absurd (cc h)

starts : (setup : Setup) (s a : ℕ) → start_of setup.actions s ≡ Some a → kind_of setup.actions a ≡ Some (ActionKind.StartSlot s)
starts setup s a e = start_kind (kind_of setup.actions a) s (found_passes (λ b. is_start_of s (kind_of setup.actions b)) 0 (length setup.actions) a e)

-- who holds something is a worker of the run
pub holder_below : (aim : Aim) (setup : Setup) (past : List Entry) (w : ℕ) → IsLegal aim setup past → is_open (holding past w) ≡ true → w < setup.limits.workers
holder_below aim setup [] w legal h = absurd (cc h)
holder_below aim setup (Entry.Claim v a ∷ past) w legal h = by (v == w) refl (holder_below aim setup past w legal.0) h
  where
    by : (t : Bool) → (v == w) ≡ t → (is_open (holding past w) ≡ true → w < setup.limits.workers) → is_open (if t then Work a else holding past w) ≡ true → w < setup.limits.workers
    by true e rest k = subst (λ (u : ℕ). u < setup.limits.workers) (eqb-true v w e) legal.1.0.below
    by false e rest k = rest k
holder_below aim setup (Entry.Poll v s ∷ past) w legal h = by (v == w) refl (holder_below aim setup past w legal.0) h
  where
    by : (t : Bool) → (v == w) ≡ t → (is_open (holding past w) ≡ true → w < setup.limits.workers) → is_open (if t then Watch s else holding past w) ≡ true → w < setup.limits.workers
    by true e rest k = subst (λ (u : ℕ). u < setup.limits.workers) (eqb-true v w e) legal.1.0.below
    by false e rest k = rest k
holder_below aim setup (Entry.Ended v outcome ∷ past) w legal h = by (v == w) (holder_below aim setup past w legal.0) h
  where
    by : (t : Bool) → (is_open (holding past w) ≡ true → w < setup.limits.workers) → is_open (if t then Nothing else holding past w) ≡ true → w < setup.limits.workers
    by true rest k = absurd (cc k)
    by false rest k = rest k
holder_below aim setup (entry ∷ past) w legal h = holder_below aim setup past w legal.0 h

module _ (setup : Setup) (journal : Reserved Entry) (rows : Actions) (slots : List SlotRow) (workers : List WorkerRow) (ending : Bool) (is : IsLedger setup journal rows slots workers ending)
    (w a : ℕ) (outcome : Outcome) (held : holding (reverse journal.items) w ≡ Work a) where
  abbrev past : List Entry
  past = reverse journal.items

  abbrev entry : Entry
  entry = Entry.Ended w outcome

  pub due : IsDueTo setup journal.items w a
  due = record { aim = is.aim; legal = is.legal; held = held }

  of_run : w < setup.limits.workers
  of_run = holder_below is.aim setup past w is.legal (ap is_open held)

  pub own_below : w < length workers
  own_below = let a = of_run in let b = is.workers_size in omega (arith, a, b)

  was_out : standing setup past a ≡ Out
  was_out = (is_held is.aim setup past w a is.legal held).out

  own_out : (get_or workers w no_worker).out ≡ true
  own_out = (is.each_worker w of_run).out_is ∙ ap is_open held

  -- there is room for the end
  pub may_end : 1 ≤ journal.spare
  may_end =
      let e = room_of workers w own_below in
      let s : cond {A = ℕ} (get_or workers w no_worker).out 1 0 ≡ 1 = ap (λ (t : Bool). cond {A = ℕ} t 1 0) own_out in
      let h = is.has_room in
      omega (arith, e, s, h)

  seen_as : (s : ℕ) → is_looked_at setup (entry ∷ past) s ≡ is_looked_at setup past s
  seen_as s = any_same (λ v. is_watch_of s (holding (entry ∷ past) v)) (λ v. is_watch_of s (holding past v)) (numbers_from 0 setup.limits.workers) (λ v m. on v (w == v) refl)
    where
      on : (v : ℕ) (x : Bool) → (w == v) ≡ x → is_watch_of s (if x then Nothing else holding past v) ≡ is_watch_of s (holding past v)
      on v true e = sym (ap (is_watch_of s) (ap (holding past) (sym (eqb-true w v e)) ∙ held))
      on v false e = refl

  module _ (well : is_well (ended_as (kind_of setup.actions a) outcome) ≡ true) where
    now_well : is_well (standing setup (entry ∷ past) a) ≡ true
    now_well = ap is_well (ended_stands setup past w a outcome held) ∙ well

    not_badly : (st : Standing) → is_well st ≡ true → (is_badly st ≡ false) × (is_free st ≡ false)
    not_badly Free h = absurd (cc h)
    not_badly Out h = absurd (cc h)
    not_badly (Well reply) h = (refl, refl)
    not_badly st h = absurd (cc h)

    old_blocked : is_blocked setup past a ≡ false
    old_blocked = (are_blocked setup is.orderly past).each a ∙ ap (λ (t : Bool). t && has_cause setup (facts_of setup past) (is_blocked setup past) a) (ap is_free was_out)

    blocked_as : is_blocked setup (entry ∷ past) ≡ is_blocked setup past
    blocked_as = functions_same (is_blocked setup (entry ∷ past)) (is_blocked setup past)
        (unique setup is.orderly (facts_of setup (entry ∷ past)) (is_blocked setup (entry ∷ past)) (is_blocked setup past) (are_blocked setup is.orderly (entry ∷ past))
        (blocked_kept setup (facts_of setup past) (facts_of setup (entry ∷ past)) (is_blocked setup past) a (ended_changes setup past w a outcome held)
        ((not_badly (standing setup (entry ∷ past) a) now_well).0 ∙ sym (ap is_badly was_out)) (not_badly (standing setup (entry ∷ past) a) now_well).1 old_blocked (are_blocked setup is.orderly past)))

    free_as : (b : ℕ) → is_free (standing setup (entry ∷ past) b) ≡ is_free (standing setup past b)
    free_as b = on (cases_eq b a)
      where
        on : (b ≡ a) ⊎ (b ≡ a → ⊥) → is_free (standing setup (entry ∷ past) b) ≡ is_free (standing setup past b)
        on (inl e) = subst (λ (k : ℕ). is_free (standing setup (entry ∷ past) k) ≡ is_free (standing setup past k)) (sym e) ((not_badly (standing setup (entry ∷ past) a) now_well).1 ∙ sym (ap is_free was_out))
        on (inr n) = ap is_free ((ended_changes setup past w a outcome held).others b n)

    keeps : KeepsPending setup past entry
    keeps = record {
      pending = functions_same (is_pending setup (entry ∷ past)) (is_pending setup past)
          (λ b. ap (λ (t : Bool). t && not (is_blocked setup (entry ∷ past) b)) (free_as b) ∙ ap (λ (p : ℕ → Bool). is_free (standing setup past b) && not (p b)) blocked_as);
      failed = (ended_changes setup past w a outcome held).failed;
      met = (ended_changes setup past w a outcome held).met;
    }

    -- reports on other slots count as before
    counts_as : (s : ℕ) → (start_of setup.actions s ≡ Some a → ⊥) → counts setup (entry ∷ past) s ≡ counts setup past s
    counts_as s n = by (start_of setup.actions s) refl
      where
        by : (o : Option ℕ) → start_of setup.actions s ≡ o → option_map_or (λ b. is_well (standing setup (entry ∷ past) b)) o true ≡ option_map_or (λ b. is_well (standing setup past b)) o true
        by None e = refl
        by (Some b) e = ap is_well ((ended_changes setup past w a outcome held).others b (λ k. n (e ∙ ap (λ (x : ℕ). Some x) k)))

    row_kept : (s : ℕ) → s < length setup.declared.slots → (start_of setup.actions s ≡ Some a → ⊥) → IsSlotRow setup (entry ∷ past) s (get_or slots s no_slot)
    row_kept s l n = let old = is.watched.each s l in row_after setup past entry s (get_or slots s no_slot) keeps old (get_or slots s no_slot).counts (get_or slots s no_slot).out (get_or slots s no_slot).polls
        (old.counts_is ∙ sym (counts_as s n)) (old.out_is ∙ sym (seen_as s)) old.polls_is

    slots_ended : (single : StartsAreSingle setup) (o : Option ActionKind) → kind_of setup.actions a ≡ o → AreSlots setup (entry ∷ past) (counting o slots)
    slots_ended single (Some (ActionKind.StartSlot t)) kind = record { size = let e : length (set slots t row) ≡ length slots = grind (arith, common_steps) in e ∙ is.watched.size; each = λ s l. by s l (cases_eq s t) }
      where
        row : SlotRow
        row = record (get_or slots t no_slot) { counts = true }

        there : t < length setup.declared.slots
        there = single.there a t kind

        counted : true ≡ counts setup (entry ∷ past) t
        counted = sym (ap (λ (o : Option ℕ). option_map_or (λ b. is_well (standing setup (entry ∷ past) b)) o true) (single.first a t kind) ∙ now_well)

        by : (s : ℕ) → s < length setup.declared.slots → (s ≡ t) ⊎ (s ≡ t → ⊥) → IsSlotRow setup (entry ∷ past) s (get_or (set slots t row) s no_slot)
        by s l (inl e) = subst (λ (k : ℕ). IsSlotRow setup (entry ∷ past) k (get_or (set slots t row) k no_slot)) (sym e)
            (subst (λ (r : SlotRow). IsSlotRow setup (entry ∷ past) t r) (sym (get_or-set_same slots t row no_slot (let z = is.watched.size in omega (arith, there, z))))
            (let old = is.watched.each t there in row_after setup past entry t (get_or slots t no_slot) keeps old true (get_or slots t no_slot).out (get_or slots t no_slot).polls counted (old.out_is ∙ sym (seen_as t)) old.polls_is))
        by s l (inr n) = subst (λ (r : SlotRow). IsSlotRow setup (entry ∷ past) s r) (sym (get_or-set_other slots t s row no_slot n))
            (row_kept s l (λ k. n (same s (sym (starts setup s a k) ∙ kind))))
          where
            same : (s : ℕ) → Some (ActionKind.StartSlot s) ≡ Some (ActionKind.StartSlot t) → s ≡ t
            same s e = cc e
    slots_ended single o kind = record { size = is.watched.size; each = λ s l. row_kept s l (λ k. let e : Some (ActionKind.StartSlot s) ≡ o = sym (starts setup s a k) ∙ kind in cc e) }

    pub ended_well : StartsAreSingle setup → (new : Actions) → RowsSay setup (journal.items ++ entry ∷ []) new → (next : Reserved Entry) → next.items ≡ journal.items ++ entry ∷ [] → journal.spare ≤ next.spare + 1
        → IsLedger setup next new (counting (kind_of setup.actions a) slots) (set workers w (record { out = false; left = (get_or workers w no_worker).left; stopped = (get_or workers w no_worker).stopped })) ending
    ended_well single new said next items spare = entered setup journal rows slots workers ending is w own_below entry new (counting (kind_of setup.actions a) slots) row ending enters next items
        (let s : cond {A = ℕ} (get_or workers w no_worker).out 1 0 ≡ 1 = ap (λ (t : Bool). cond {A = ℕ} t 1 0) own_out in let h = is.has_room in omega (arith, s, h, spare))
      where
        row : WorkerRow
        row = record { out = false; left = (get_or workers w no_worker).left; stopped = (get_or workers w no_worker).stopped }

        enters : Enters setup journal rows slots workers ending is w own_below entry new (counting (kind_of setup.actions a) slots) row ending
        enters = record {
          stands = ap is_open held;
          said = said;
          watched = slots_ended single (kind_of setup.actions a) refl;
          own = let old = is.each_worker w of_run in record {
            out_is = sym (ap (λ (t : Bool). is_open (if t then Nothing else holding past w)) (eq-eqb w w refl));
            left_is = old.left_is;
            stopped_is = old.stopped_is;
          };
          others = record { held = λ v n. sym (ap (λ (t : Bool). is_open (if t then Nothing else holding past v)) (differs w v n)); left = λ v n. refl; stopped = λ v n. refl };
          ending_is = is.ending_is;
          seen = refl;
        }
