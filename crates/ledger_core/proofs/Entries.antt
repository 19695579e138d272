-- One entry more: what a ledger's rows say after it.
use Rattle.std.proofs.Common.{◌≡◌, ◌⊎◌, ℕ, zero, suc, ◌+◌, ◌<◌, ◌≤◌, Bool, true, not, ◌&&◌, List, [], ◌∷◌, ◌++◌, length, reverse, get_or, set, sym, ap, ◌∙◌, subst, inl, inr, arith}
use Rattle.std.proofs.lemmas.Bool.{cases_eq}
use Rattle.std.proofs.lemmas.Grind.{common_steps}
use Rattle.std.proofs.lemmas.List.{reverse-append}
use Rattle.std.specs.List.{list_any}
use Rattle.std.specs.Option.{option_map_or}
use Rattle.std.specs.Prelude.{is_some}
use Rattle.tree_base.specs.Reserved.{Reserved}
use Rattle.engine_types.specs.declared.Condition.{Condition}
use Rattle.engine_types.specs.declared.Entry.{Entry}
use Rattle.run_model.specs.Conditions.{counts, has_failed, is_blocked, is_pending, was_met}
use Rattle.run_model.specs.Journals.{Holding, Setup, Standing, has_left, has_stopped, holding, is_ending, is_free, is_open, is_watch_of, is_well, polls, seen_in, standing}
use Rattle.run_model.specs.Legal.{IsLegal, MayStand, is_looked_at, workers}
use Rattle.run_model.specs.Plans.{IsOrderly, start_of}
use Rattle.ledger_rows.specs.ActionRows.Values.{Actions}
use Rattle.ledger_rows.specs.Entries.{RowsSay}
use Rattle.ledger_rows.specs.Facts.{AreBlocked, Facts, askers, facts_of}
use Rattle.ledger_rows.specs.Workers.{IsWorkerRow, no_worker}
use Rattle.ledger_rows.specs.declared.worker_row.WorkerRow.{WorkerRow}
use Rattle.ledger_rows.proofs.Fixed.{are_blocked, unique}
use Rattle.ledger_rows.proofs.Steps.{functions_same}
use Rattle.slot_rows.specs.Keys.{no_slot}
use Rattle.slot_rows.specs.Slots.{AreSlots, IsSlotRow, verdict_by, verdict_in}
use Rattle.slot_rows.specs.declared.slot_row.SlotRow.{SlotRow}
use Rattle.ledger_core.specs.Ledgers.{IsLedger, room, worker_room}

-- an entry that changes nothing of actions, reports and polls
pub record ChangesNothing (setup : Setup) (past : List Entry) (entry : Entry) : Type 0 where
  pub stands : standing setup (entry ∷ past) ≡ standing setup past
  pub failed : has_failed setup (entry ∷ past) ≡ has_failed setup past
  pub met : was_met setup (entry ∷ past) ≡ was_met setup past
  pub held : holding (entry ∷ past) ≡ holding past
  pub polled : polls (entry ∷ past) ≡ polls past

-- an entry after which the same actions are still to come, and reports say the same
pub record KeepsPending (setup : Setup) (past : List Entry) (entry : Entry) : Type 0 where
  pub pending : is_pending setup (entry ∷ past) ≡ is_pending setup past
  pub failed : has_failed setup (entry ∷ past) ≡ has_failed setup past
  pub met : was_met setup (entry ∷ past) ≡ was_met setup past

pub pending_kept : (setup : Setup) (past : List Entry) (entry : Entry) → IsOrderly setup.declared setup.actions → standing setup (entry ∷ past) ≡ standing setup past
    → has_failed setup (entry ∷ past) ≡ has_failed setup past → was_met setup (entry ∷ past) ≡ was_met setup past → KeepsPending setup past entry
pending_kept setup past entry orderly stands failed met = record { pending = pending_as; failed = failed; met = met }
  where
    facts_as : facts_of setup (entry ∷ past) ≡ facts_of setup past
    facts_as = ap (λ (p : ℕ → Standing). record { stands = p; failed = has_failed setup (entry ∷ past); met = was_met setup (entry ∷ past) }) stands
        ∙ ap (λ (p : ℕ → Condition → Bool). record { stands = standing setup past; failed = p; met = was_met setup (entry ∷ past) }) failed
        ∙ ap (λ (p : ℕ → Condition → Bool). record { stands = standing setup past; failed = has_failed setup past; met = p }) met

    blocked_as : is_blocked setup (entry ∷ past) ≡ is_blocked setup past
    blocked_as = functions_same (is_blocked setup (entry ∷ past)) (is_blocked setup past)
        (unique setup orderly (facts_of setup past) (is_blocked setup (entry ∷ past)) (is_blocked setup past)
        (subst (λ (facts : Facts). AreBlocked setup facts (is_blocked setup (entry ∷ past))) facts_as (are_blocked setup orderly (entry ∷ past))) (are_blocked setup orderly past))

    pending_as : is_pending setup (entry ∷ past) ≡ is_pending setup past
    pending_as = functions_same (is_pending setup (entry ∷ past)) (is_pending setup past)
        (λ a. ap (λ (p : ℕ → Standing). is_free (p a) && not (is_blocked setup (entry ∷ past) a)) stands ∙ ap (λ (p : ℕ → Bool). is_free (standing setup past a) && not (p a)) blocked_as)

-- what is asked for of a slot, and what reports said of it, stays in its row
pub row_after : (setup : Setup) (past : List Entry) (entry : Entry) (s : ℕ) (row : SlotRow) → KeepsPending setup past entry → IsSlotRow setup past s row → (counted out : Bool) (n : ℕ)
    → counted ≡ counts setup (entry ∷ past) s → out ≡ is_looked_at setup (entry ∷ past) s → n ≡ polls (entry ∷ past) s → IsSlotRow setup (entry ∷ past) s (record row { counts = counted; out = out; polls = n })
row_after setup past entry s row keeps is counted out n counted_is out_is polls_is = record {
  counts_is = counted_is;
  out_is = out_is;
  polls_is = polls_is;
  healthy_is = is.healthy_is ∙ sym (verdict_as Condition.Healthy);
  completed_is = is.completed_is ∙ sym (verdict_as Condition.Completed);
  running_is = is.running_is ∙ sym (verdict_as Condition.Running);
  healthy_askers_is = is.healthy_askers_is ∙ sym (asked_as Condition.Healthy);
  completed_askers_is = is.completed_askers_is ∙ sym (asked_as Condition.Completed);
  goal_is = is.goal_is;
}
  where
    verdict_as : (c : Condition) → verdict_in setup (entry ∷ past) s c ≡ verdict_in setup past s c
    verdict_as c = ap (λ (p : ℕ → Condition → Bool). verdict_by (p s c) (was_met setup (entry ∷ past) s c)) keeps.failed ∙ ap (λ (p : ℕ → Condition → Bool). verdict_by (has_failed setup past s c) (p s c)) keeps.met

    asked_as : (c : Condition) → askers setup (is_pending setup (entry ∷ past)) s c ≡ askers setup (is_pending setup past) s c
    asked_as c = ap (λ (p : ℕ → Bool). askers setup p s c) keeps.pending

-- the rows of slots say it too
pub slots_kept : (setup : Setup) (past : List Entry) (entry : Entry) (slots : List SlotRow) → IsOrderly setup.declared setup.actions → ChangesNothing setup past entry → AreSlots setup past slots → AreSlots setup (entry ∷ past) slots
slots_kept setup past entry slots orderly nothing are = record { size = are.size; each = λ s l. kept s (get_or slots s no_slot) (are.each s l) }
  where
    kept : (s : ℕ) (row : SlotRow) → IsSlotRow setup past s row → IsSlotRow setup (entry ∷ past) s row
    kept s row is = row_after setup past entry s row (pending_kept setup past entry orderly nothing.stands nothing.failed nothing.met) is row.counts row.out row.polls
        (is.counts_is ∙ sym (ap (λ (p : ℕ → Standing). option_map_or (λ a. is_well (p a)) (start_of setup.actions s) true) nothing.stands))
        (is.out_is ∙ sym (ap (λ (p : ℕ → Holding). list_any (λ w. is_watch_of s (p w)) (workers setup)) nothing.held))
        (is.polls_is ∙ sym (ap (λ (p : ℕ → ℕ). p s) nothing.polled))

-- the room of one worker's row
pub room_set : (workers : List WorkerRow) (w : ℕ) (row : WorkerRow) → w < length workers → room (set workers w row) + worker_room (get_or workers w no_worker) ≡ room workers + worker_room row
room_set [] w row l = absurd (omega arith)
room_set (x ∷ xs) zero row l = omega arith
room_set (x ∷ xs) (suc w) row l = let e = room_set xs w row (omega arith) in omega (arith, e)

pub room_of : (workers : List WorkerRow) (w : ℕ) → w < length workers → worker_room (get_or workers w no_worker) ≤ room workers
room_of [] w l = absurd (omega arith)
room_of (x ∷ xs) zero l = omega arith
room_of (x ∷ xs) (suc w) l = let e = room_of xs w (omega arith) in omega (arith, e)

-- the same rows, over a journal with more room
pub roomier : (setup : Setup) (journal next : Reserved Entry) (rows : Actions) (slots : List SlotRow) (workers : List WorkerRow) (ending : Bool) → IsLedger setup journal rows slots workers ending
    → next.items ≡ journal.items → journal.spare ≤ next.spare → IsLedger setup next rows slots workers ending
roomier setup journal next rows slots workers ending is items spare = record {
  aim = is.aim;
  legal = subst (λ (js : List Entry). IsLegal is.aim setup (reverse js)) (sym items) is.legal;
  begun = ap (λ (js : List Entry). is_some (seen_in (reverse js))) items ∙ is.begun;
  orderly = is.orderly;
  few = is.few;
  actions = subst (λ (js : List Entry). RowsSay setup js rows) (sym items) is.actions;
  watched = subst (λ (js : List Entry). AreSlots setup (reverse js) slots) (sym items) is.watched;
  workers_size = is.workers_size;
  each_worker = λ v l. subst (λ (js : List Entry). IsWorkerRow (reverse js) v (get_or workers v no_worker)) (sym items) (is.each_worker v l);
  ending_is = is.ending_is ∙ sym (ap (λ (js : List Entry). is_ending (reverse js)) items);
  has_room = let h = is.has_room in omega (arith, h, spare);
}

-- a worker whose turn an entry isn't keeps its row
pub record KeepsOthers (past : List Entry) (w : ℕ) (entry : Entry) : Type 0 where
  pub held : (v : ℕ) → (w ≡ v → ⊥) → is_open (holding past v) ≡ is_open (holding (entry ∷ past) v)
  pub left : (v : ℕ) → (w ≡ v → ⊥) → has_left past v ≡ has_left (entry ∷ past) v
  pub stopped : (v : ℕ) → (w ≡ v → ⊥) → has_stopped past v ≡ has_stopped (entry ∷ past) v

module _ (setup : Setup) (journal : Reserved Entry) (rows : Actions) (slots : List SlotRow) (workers : List WorkerRow) (ending : Bool) (is : IsLedger setup journal rows slots workers ending)
    (w : ℕ) (below : w < length workers) where
  -- what has to hold for an entry of this worker, with the rows after it
  pub record Enters (entry : Entry) (actions : Actions) (polled : List SlotRow) (row : WorkerRow) (ends : Bool) : Type 0 where
    pub stands : MayStand is.aim setup (reverse journal.items) entry
    pub said : RowsSay setup (journal.items ++ entry ∷ []) actions
    pub watched : AreSlots setup (entry ∷ reverse journal.items) polled
    pub own : IsWorkerRow (entry ∷ reverse journal.items) w row
    pub others : KeepsOthers (reverse journal.items) w entry
    pub ending_is : ends ≡ is_ending (entry ∷ reverse journal.items)
    pub seen : seen_in (entry ∷ reverse journal.items) ≡ seen_in (reverse journal.items)

  pub entered : (entry : Entry) (actions : Actions) (polled : List SlotRow) (row : WorkerRow) (ends : Bool) → Enters entry actions polled row ends → (next : Reserved Entry) → next.items ≡ journal.items ++ entry ∷ []
      → room workers + worker_room row ≤ next.spare + worker_room (get_or workers w no_worker) → IsLedger setup next actions polled (set workers w row) ends
  entered entry actions polled row ends enters next items spare = record {
    aim = is.aim;
    legal = subst (λ (p : List Entry). IsLegal is.aim setup p) (sym newest) (is.legal, enters.stands);
    begun = ap (λ (p : List Entry). is_some (seen_in p)) newest ∙ ap (λ o. is_some o) enters.seen ∙ is.begun;
    orderly = is.orderly;
    few = is.few;
    actions = subst (λ (js : List Entry). RowsSay setup js actions) (sym items) enters.said;
    watched = subst (λ (p : List Entry). AreSlots setup p polled) (sym newest) enters.watched;
    workers_size = let e : length (set workers w row) ≡ length workers = grind (arith, common_steps) in e ∙ is.workers_size;
    each_worker = λ v l. subst (λ (p : List Entry). IsWorkerRow p v (get_or (set workers w row) v no_worker)) (sym newest) (by v l (cases_eq w v));
    ending_is = enters.ending_is ∙ sym (ap is_ending newest);
    has_room = let e = room_set workers w row below in omega (arith, e, spare);
  }
    where
      newest : reverse next.items ≡ entry ∷ reverse journal.items
      newest = ap reverse items ∙ reverse-append journal.items (entry ∷ [])

      by : (v : ℕ) → v < setup.limits.workers → (w ≡ v) ⊎ (w ≡ v → ⊥) → IsWorkerRow (entry ∷ reverse journal.items) v (get_or (set workers w row) v no_worker)
      by v l (inl e) = subst (λ (k : ℕ). IsWorkerRow (entry ∷ reverse journal.items) k (get_or (set workers w row) k no_worker)) e
          (subst (λ (r : WorkerRow). IsWorkerRow (entry ∷ reverse journal.items) w r) (sym here) enters.own)
        where
          here : get_or (set workers w row) w no_worker ≡ row
          here = grind (arith, common_steps, below)
      by v l (inr n) = subst (λ (r : WorkerRow). IsWorkerRow (entry ∷ reverse journal.items) v r) (sym there)
          (let old = is.each_worker v l in record { out_is = old.out_is ∙ enters.others.held v n; left_is = old.left_is ∙ enters.others.left v n; stopped_is = old.stopped_is ∙ enters.others.stopped v n })
        where
          there : get_or (set workers w row) v no_worker ≡ get_or workers v no_worker
          there = grind (arith, common_steps)
