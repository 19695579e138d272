-- What a ledger's rows say after each answer but the grant of an action.
use Rattle.std.proofs.Common.{◌≡◌, ◌⊎◌, ℕ, zero, suc, ◌+◌, ◌<◌, ◌≤◌, Bool, true, false, cond, ◌||◌, ◌==◌, List, [], ◌∷◌, ◌++◌, length, reverse, get_or, set, Option, Some, None, if◌then◌else◌, refl, sym, ap, ◌∙◌, subst, inl, inr, arith}
use Rattle.std.proofs.lemmas.Bool.{cases_eq, eq-eqb, eqb-true, leb-false}
use Rattle.std.proofs.lemmas.Grind.{common_steps}
use Rattle.std.proofs.lemmas.List.{get_or-set_other, get_or-set_same, set-get_or}
use Rattle.std.specs.Prelude.{find, nat_le}
use Rattle.engine_types.specs.declared.Aim.{Aim}
use Rattle.tree_base.specs.Limits.{most_entries}
use Rattle.tree_base.specs.Reserved.{Reserved}
use Rattle.engine_types.specs.declared.Entry.{Entry}
use Rattle.engine_types.specs.declared.LateWhy.{LateWhy}
use Rattle.run_model.specs.Journals.{Holding, Nothing, Setup, Watch, Work, has_left, has_stopped, holding, is_ending, is_open, is_watch_of, polls, seen_in}
use Rattle.run_model.specs.Legal.{IsLegal, IsReady, Look, MayStand, Pause, answer_to, decision, is_looked_at, is_other_out, next_action, next_poll}
use Rattle.run_model.specs.Numbers.{numbers_from}
use Rattle.ledger_rows.specs.ActionRows.Values.{Actions}
use Rattle.ledger_rows.specs.Laws.{is_quiet}
use Rattle.ledger_rows.specs.Workers.{no_worker}
use Rattle.ledger_rows.specs.declared.worker_row.WorkerRow.{WorkerRow}
use Rattle.ledger_rows.proofs.Fixed.{any_same}
use Rattle.ledger_rows.proofs.Turns.{quiet_kept}
use Rattle.ledger_rows.proofs.Watching.{differs, one_of}
use Rattle.slot_rows.specs.Keys.{no_slot}
use Rattle.slot_rows.specs.Slots.{AreSlots, IsSlotRow}
use Rattle.slot_rows.specs.declared.slot_row.SlotRow.{SlotRow}
use Rattle.ledger_core.specs.Answers.{IsLastEntry}
use Rattle.ledger_core.specs.Ledgers.{IsLedger, room}
use Rattle.ledger_core.proofs.Entries.{ChangesNothing, Enters, KeepsPending, entered, pending_kept, room_of, row_after, slots_kept}

or_true : (t : Bool) → true ≡ (t || true)
or_true true = refl
or_true false = refl

or_false : (t : Bool) → t ≡ (t || false)
or_false true = refl
or_false false = refl

-- a slot was polled at most as often as there are entries
polls_most : (past : List Entry) (s : ℕ) → polls past s ≤ length past
polls_most [] s = omega arith
polls_most (Entry.Poll v t ∷ past) s = by (t == s) (polls_most past s)
  where
    by : (x : Bool) → polls past s ≤ length past → cond {A = ℕ} x (polls past s + 1) (polls past s) ≤ suc (length past)
    by true e = omega (arith, e)
    by false e = omega (arith, e)
polls_most (entry ∷ past) s = let e = polls_most past s in omega (arith, e)

-- what is found among numbers is one of them
pub found_below : (p : ℕ → Bool) (i n k : ℕ) → find p (numbers_from i n) ≡ Some k → k < i + n
found_below p i zero k e = absurd (cc e)
found_below p i (suc n) k e = by (p i) (found_below p (i + 1) n k) e
  where
    by : (t : Bool) → (find p (numbers_from (i + 1) n) ≡ Some k → k < i + 1 + n) → cond t (Some i) (find p (numbers_from (i + 1) n)) ≡ Some k → k < i + suc n
    by true rest h = let same : i ≡ k = cc h in omega (arith, same)
    by false rest h = let r = rest h in omega (arith, r)

-- where a decision is to poll, the slot is the next one, and the journal isn't full
record IsLook (setup : Setup) (past : List Entry) (s : ℕ) : Type 0 where
  next : next_poll setup past ≡ Some s
  short : length past < most_entries

look_is : (setup : Setup) (past : List Entry) (w s : ℕ) → decision setup past w ≡ Look s → IsLook setup past s
look_is setup past w s d = on (nat_le most_entries (length past)) (is_ending past) (next_action setup past) (next_poll setup past) (is_other_out setup past w) refl refl d
  where
    on : (t e : Bool) (a p : Option ℕ) (o : Bool) → nat_le most_entries (length past) ≡ t → next_poll setup past ≡ p → answer_to t e a p o ≡ Look s → IsLook setup past s
    on true e a p o ht hp h = absurd (cc h)
    on false true a p o ht hp h = absurd (cc h)
    on false false (Some a) p o ht hp h = absurd (cc h)
    on false false None (Some x) o ht hp h = let same : x ≡ s = cc h in record { next = hp ∙ ap (λ (k : ℕ). Some k) same; short = leb-false most_entries (length past) ht }
    on false false None None true ht hp h = absurd (cc h)
    on false false None None false ht hp h = absurd (cc h)

-- a slot that a worker looks at is declared
pub watched_below : (aim : Aim) (setup : Setup) (past : List Entry) (w s : ℕ) → IsLegal aim setup past → holding past w ≡ Watch s → s < length setup.declared.slots
watched_below aim setup [] w s legal h = absurd (cc h)
watched_below aim setup (Entry.Seen observation ∷ past) w s legal h = watched_below aim setup past w s legal.0 h
watched_below aim setup (Entry.Idle v ∷ past) w s legal h = watched_below aim setup past w s legal.0 h
watched_below aim setup (Entry.Leave v ∷ past) w s legal h = watched_below aim setup past w s legal.0 h
watched_below aim setup (Entry.Stop v ∷ past) w s legal h = watched_below aim setup past w s legal.0 h
watched_below aim setup (Entry.Late v why ∷ past) w s legal h = watched_below aim setup past w s legal.0 h
watched_below aim setup (Entry.Short v ∷ past) w s legal h = watched_below aim setup past w s legal.0 h
watched_below aim setup (Entry.Claim v a ∷ past) w s legal h = on (v == w) h (watched_below aim setup past w s legal.0)
  where
    on : (t : Bool) → (if t then Work a else holding past w) ≡ Watch s → (holding past w ≡ Watch s → s < length setup.declared.slots) → s < length setup.declared.slots
    on true k rest = absurd (cc k)
    on false k rest = rest k
watched_below aim setup (Entry.Ended v outcome ∷ past) w s legal h = on (v == w) h (watched_below aim setup past w s legal.0)
  where
    on : (t : Bool) → (if t then Nothing else holding past w) ≡ Watch s → (holding past w ≡ Watch s → s < length setup.declared.slots) → s < length setup.declared.slots
    on true k rest = absurd (cc k)
    on false k rest = rest k
watched_below aim setup (Entry.Poll v t ∷ past) w s legal h = on (v == w) h (watched_below aim setup past w s legal.0)
  where
    on : (x : Bool) → (if x then Watch t else holding past w) ≡ Watch s → (holding past w ≡ Watch s → s < length setup.declared.slots) → s < length setup.declared.slots
    on true k rest =
        let same : t ≡ s = cc k in
        let l = found_below _ 0 (length setup.declared.slots) t (look_is setup past v t legal.1.1).next in
        omega (arith, l, same)
    on false k rest = rest k

-- no worker needs more than three entries without memory
pub room_most : (workers : List WorkerRow) → room workers ≤ length workers + length workers + length workers
room_most [] = omega arith
room_most (row ∷ workers) = let e = room_most workers in let o = at_most row.out in let s = at_least row.stopped in let l = at_least row.left in omega (arith, e, o, s, l)
  where
    at_most : (t : Bool) → cond {A = ℕ} t 1 0 ≤ 1
    at_most true = omega arith
    at_most false = omega arith

    at_least : (t : Bool) → cond {A = ℕ} t 0 1 ≤ 1
    at_least true = omega arith
    at_least false = omega arith

module _ (setup : Setup) (journal : Reserved Entry) (rows : Actions) (slots : List SlotRow) (workers : List WorkerRow) (ending : Bool) (is : IsLedger setup journal rows slots workers ending)
    (w : ℕ) (ready : IsReady setup (reverse journal.items) w) where
  below : w < length workers
  below = let a = ready.below in let b = is.workers_size in omega (arith, a, b)

  was_here : (get_or workers w no_worker).left ≡ false
  was_here = (is.each_worker w ready.below).left_is ∙ ready.here

  was_idle : (get_or workers w no_worker).out ≡ false
  was_idle = (is.each_worker w ready.below).out_is ∙ ap is_open ready.idle

  -- there is room for a worker's last entry
  pub may_leave : 1 ≤ journal.spare
  may_leave =
      let e = room_of workers w below in
      let s : cond {A = ℕ} (get_or workers w no_worker).left 0 1 ≡ 1 = ap (λ (t : Bool). cond {A = ℕ} t 0 1) was_here in
      let h = is.has_room in
      omega (arith, e, s, h)

  -- an entry by which the worker has left
  record Leaves (entry : Entry) : Type 0 where
    stands : MayStand is.aim setup (reverse journal.items) entry
    quiet : is_quiet entry ≡ true
    nothing : ChangesNothing setup (reverse journal.items) entry
    seen : seen_in (entry ∷ reverse journal.items) ≡ seen_in (reverse journal.items)
    ends : is_ending (entry ∷ reverse journal.items) ≡ (is_ending (reverse journal.items) || is_ending (entry ∷ []))
    stopped : has_stopped (entry ∷ reverse journal.items) ≡ has_stopped (reverse journal.items)
    marks : (v : ℕ) → has_left (entry ∷ reverse journal.items) v ≡ (if w == v then true else has_left (reverse journal.items) v)

  leaves : (entry : Entry) → IsLastEntry setup (reverse journal.items) w entry → Leaves entry
  leaves (Entry.Leave v) h = subst (λ (u : ℕ). Leaves (Entry.Leave u)) (sym h.0) (record {
    stands = (ready, h.1);
    quiet = refl;
    nothing = record { stands = refl; failed = refl; met = refl; held = refl; polled = refl };
    seen = refl;
    ends = or_false (is_ending (reverse journal.items));
    stopped = refl;
    marks = λ v. refl;
  })
  leaves (Entry.Late v LateWhy.Entries) h = subst (λ (u : ℕ). Leaves (Entry.Late u LateWhy.Entries)) (sym h.0) (record {
    stands = (ready, h.1);
    quiet = refl;
    nothing = record { stands = refl; failed = refl; met = refl; held = refl; polled = refl };
    seen = refl;
    ends = or_true (is_ending (reverse journal.items));
    stopped = refl;
    marks = λ v. refl;
  })
  leaves (Entry.Short v) h = subst (λ (u : ℕ). Leaves (Entry.Short u)) (sym h.0) (record {
    stands = (ready, h.1);
    quiet = refl;
    nothing = record { stands = refl; failed = refl; met = refl; held = refl; polled = refl };
    seen = refl;
    ends = or_true (is_ending (reverse journal.items));
    stopped = refl;
    marks = λ v. refl;
  })
  leaves (Entry.Late v (LateWhy.Deadline reading)) h = absurd h
  leaves (Entry.Seen observed) h = absurd h
  leaves (Entry.Claim v a) h = absurd h
  leaves (Entry.Poll v s) h = absurd h
  leaves (Entry.Ended v outcome) h = absurd h
  leaves (Entry.Idle v) h = absurd h
  leaves (Entry.Stop v) h = absurd h

  pub left : (entry : Entry) → IsLastEntry setup (reverse journal.items) w entry → (next : Reserved Entry) → next.items ≡ journal.items ++ entry ∷ [] → journal.spare ≤ next.spare + 1
      → IsLedger setup next rows slots (set workers w (record { out = (get_or workers w no_worker).out; left = true; stopped = (get_or workers w no_worker).stopped })) (ending || is_ending (entry ∷ []))
  left entry last next items spare = entered setup journal rows slots workers ending is w below entry rows slots row (ending || is_ending (entry ∷ [])) enters next items
      (let s : cond {A = ℕ} (get_or workers w no_worker).left 0 1 ≡ 1 = ap (λ (t : Bool). cond {A = ℕ} t 0 1) was_here in let h = is.has_room in omega (arith, s, h, spare))
    where
      row : WorkerRow
      row = record { out = (get_or workers w no_worker).out; left = true; stopped = (get_or workers w no_worker).stopped }

      by : Leaves entry
      by = leaves entry last

      held_as : (v : ℕ) → is_open (holding (reverse journal.items) v) ≡ is_open (holding (entry ∷ reverse journal.items) v)
      held_as v = sym (ap (λ (p : ℕ → Holding). is_open (p v)) by.nothing.held)

      stopped_as : (v : ℕ) → has_stopped (reverse journal.items) v ≡ has_stopped (entry ∷ reverse journal.items) v
      stopped_as v = sym (ap (λ (p : ℕ → Bool). p v) by.stopped)

      enters : Enters setup journal rows slots workers ending is w below entry rows slots row (ending || is_ending (entry ∷ []))
      enters = record {
        stands = by.stands;
        said = quiet_kept setup journal.items entry rows by.quiet is.actions;
        watched = slots_kept setup (reverse journal.items) entry slots is.orderly by.nothing is.watched;
        own = let old = is.each_worker w ready.below in record {
          out_is = old.out_is ∙ held_as w;
          left_is = sym (by.marks w ∙ ap (λ (t : Bool). if t then true else has_left (reverse journal.items) w) (eq-eqb w w refl));
          stopped_is = old.stopped_is ∙ stopped_as w;
        };
        others = record {
          held = λ v n. held_as v;
          left = λ v n. sym (by.marks v ∙ ap (λ (t : Bool). if t then true else has_left (reverse journal.items) v) (differs w v n));
          stopped = λ v n. stopped_as v;
        };
        ending_is = ap (λ (t : Bool). t || is_ending (entry ∷ [])) is.ending_is ∙ sym by.ends;
        seen = by.seen;
      }

  -- a pause
  pub paused : decision setup (reverse journal.items) w ≡ Pause → (next : Reserved Entry) → next.items ≡ journal.items ++ Entry.Idle w ∷ [] → 49 ≤ next.spare → IsLedger setup next rows slots workers ending
  paused d next items spare = subst (λ (ws : List WorkerRow). IsLedger setup next rows slots ws ending) (set-get_or workers w no_worker)
      (entered setup journal rows slots workers ending is w below (Entry.Idle w) rows slots (get_or workers w no_worker) ending enters next items
      (let m = room_most workers in let s = is.workers_size in let f = is.few in omega (arith, m, s, f, spare)))
    where
      enters : Enters setup journal rows slots workers ending is w below (Entry.Idle w) rows slots (get_or workers w no_worker) ending
      enters = record {
        stands = (ready, d);
        said = quiet_kept setup journal.items (Entry.Idle w) rows refl is.actions;
        watched = slots_kept setup (reverse journal.items) (Entry.Idle w) slots is.orderly (record { stands = refl; failed = refl; met = refl; held = refl; polled = refl }) is.watched;
        own = let old = is.each_worker w ready.below in record { out_is = old.out_is; left_is = old.left_is; stopped_is = old.stopped_is };
        others = record { held = λ v n. refl; left = λ v n. refl; stopped = λ v n. refl };
        ending_is = is.ending_is;
        seen = refl;
      }

  -- a poll of the slot that is polled next
  looks : (s : ℕ) → decision setup (reverse journal.items) w ≡ Look s → IsLook setup (reverse journal.items) s
  looks s d = look_is setup (reverse journal.items) w s d

  pub slot_there : (s : ℕ) → decision setup (reverse journal.items) w ≡ Look s → s < length slots
  slot_there s d = let l = found_below _ 0 (length setup.declared.slots) s (looks s d).next in let e = is.watched.size in omega (arith, l, e)

  pub polls_small : (s : ℕ) → decision setup (reverse journal.items) w ≡ Look s → (get_or slots s no_slot).polls + 1 < 4294967296
  polls_small s d =
      let there = slot_there s d in let size = is.watched.size in
      let e = (is.watched.each s (omega (arith, there, size))).polls_is in
      let m = polls_most (reverse journal.items) s in
      let k = (looks s d).short in
      omega (arith, e, m, k)

  abbrev polled_row : ℕ → SlotRow
  polled_row s = record (get_or slots s no_slot) { out = true; polls = (get_or slots s no_slot).polls + 1 }

  slots_polled : (s : ℕ) → decision setup (reverse journal.items) w ≡ Look s → AreSlots setup (Entry.Poll w s ∷ reverse journal.items) (set slots s (polled_row s))
  slots_polled s d = record { size = let e : length (set slots s (polled_row s)) ≡ length slots = grind (arith, common_steps) in e ∙ is.watched.size; each = λ t l. by t l (cases_eq t s) }
    where
      past : List Entry
      past = reverse journal.items

      keeps : KeepsPending setup past (Entry.Poll w s)
      keeps = pending_kept setup past (Entry.Poll w s) is.orderly refl refl refl

      there : s < length setup.declared.slots
      there = let l = slot_there s d in let e = is.watched.size in omega (arith, l, e)

      seen_here : true ≡ is_looked_at setup (Entry.Poll w s ∷ past) s
      seen_here = sym (one_of (λ v. is_watch_of s (holding (Entry.Poll w s ∷ past) v)) 0 setup.limits.workers w (omega arith) (let b = ready.below in omega (arith, b))
          (ap (λ (t : Bool). is_watch_of s (if t then Watch s else holding past w)) (eq-eqb w w refl) ∙ eq-eqb s s refl))

      seen_there : (t : ℕ) → (t ≡ s → ⊥) → is_looked_at setup (Entry.Poll w s ∷ past) t ≡ is_looked_at setup past t
      seen_there t n = any_same (λ v. is_watch_of t (holding (Entry.Poll w s ∷ past) v)) (λ v. is_watch_of t (holding past v)) (numbers_from 0 setup.limits.workers) (λ v m. on v (w == v) refl)
        where
          on : (v : ℕ) (x : Bool) → (w == v) ≡ x → is_watch_of t (if x then Watch s else holding past v) ≡ is_watch_of t (holding past v)
          on v true e = differs s t (λ k. n (sym k)) ∙ sym (ap (is_watch_of t) (ap (holding past) (sym (eqb-true w v e)) ∙ ready.idle))
          on v false e = refl

      by : (t : ℕ) → t < length setup.declared.slots → (t ≡ s) ⊎ (t ≡ s → ⊥) → IsSlotRow setup (Entry.Poll w s ∷ past) t (get_or (set slots s (polled_row s)) t no_slot)
      by t l (inl e) = subst (λ (k : ℕ). IsSlotRow setup (Entry.Poll w s ∷ past) k (get_or (set slots s (polled_row s)) k no_slot)) (sym e)
          (subst (λ (r : SlotRow). IsSlotRow setup (Entry.Poll w s ∷ past) s r) (sym (get_or-set_same slots s (polled_row s) no_slot (slot_there s d)))
          (let old = is.watched.each s there in row_after setup past (Entry.Poll w s) s (get_or slots s no_slot) keeps old (get_or slots s no_slot).counts true ((get_or slots s no_slot).polls + 1)
          old.counts_is seen_here (ap (λ (k : ℕ). k + 1) old.polls_is ∙ sym (ap (λ (x : Bool). if x then polls past s + 1 else polls past s) (eq-eqb s s refl)))))
      by t l (inr n) = subst (λ (r : SlotRow). IsSlotRow setup (Entry.Poll w s ∷ past) t r) (sym (get_or-set_other slots s t (polled_row s) no_slot n))
          (let old = is.watched.each t l in row_after setup past (Entry.Poll w s) t (get_or slots t no_slot) keeps old (get_or slots t no_slot).counts (get_or slots t no_slot).out (get_or slots t no_slot).polls
          old.counts_is (old.out_is ∙ sym (seen_there t n)) (old.polls_is ∙ sym (ap (λ (x : Bool). if x then polls past t + 1 else polls past t) (differs s t (λ k. n (sym k))))))

  pub looked : (s : ℕ) → decision setup (reverse journal.items) w ≡ Look s → (next : Reserved Entry) → next.items ≡ journal.items ++ Entry.Poll w s ∷ [] → 49 ≤ next.spare
      → IsLedger setup next rows (set slots s (polled_row s)) (set workers w (record { out = true; left = (get_or workers w no_worker).left; stopped = (get_or workers w no_worker).stopped })) ending
  looked s d next items spare = entered setup journal rows slots workers ending is w below (Entry.Poll w s) rows (set slots s (polled_row s)) row ending enters next items
      (let m = room_most workers in let z = is.workers_size in let f = is.few in
      let o : cond {A = ℕ} (get_or workers w no_worker).out 1 0 ≡ 0 = ap (λ (t : Bool). cond {A = ℕ} t 1 0) was_idle in omega (arith, m, z, f, o, spare))
    where
      row : WorkerRow
      row = record { out = true; left = (get_or workers w no_worker).left; stopped = (get_or workers w no_worker).stopped }

      past : List Entry
      past = reverse journal.items

      enters : Enters setup journal rows slots workers ending is w below (Entry.Poll w s) rows (set slots s (polled_row s)) row ending
      enters = record {
        stands = (ready, d);
        said = quiet_kept setup journal.items (Entry.Poll w s) rows refl is.actions;
        watched = slots_polled s d;
        own = let old = is.each_worker w ready.below in record {
          out_is = sym (ap (λ (t : Bool). is_open (if t then Watch s else holding past w)) (eq-eqb w w refl));
          left_is = old.left_is;
          stopped_is = old.stopped_is;
        };
        others = record { held = λ v n. sym (ap (λ (t : Bool). is_open (if t then Watch s else holding past v)) (differs w v n)); left = λ v n. refl; stopped = λ v n. refl };
        ending_is = is.ending_is;
        seen = refl;
      }
