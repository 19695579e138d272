-- What a ledger's rows say after a claim, and after the end of what a worker holds, where those of the actions and slots do.
use Rattle.std.proofs.Common.{◌≡◌, ◌⊎◌, ℕ, zero, suc, ◌+◌, ◌<◌, ◌≤◌, Bool, true, false, cond, List, [], ◌∷◌, ◌++◌, length, reverse, get_or, set, Option, Some, None, if◌then◌else◌, refl, sym, ap, ◌∙◌, subst, inl, inr, arith}
use Rattle.std.proofs.lemmas.Bool.{cases_lt, eq-eqb}
use Rattle.std.specs.Prelude.{find, nat_le}
use Rattle.tree_base.specs.Limits.{most_entries}
use Rattle.tree_base.specs.Reserved.{Reserved}
use Rattle.engine_types.specs.declared.ActionKind.{ActionKind}
use Rattle.engine_types.specs.declared.Entry.{Entry}
use Rattle.engine_types.specs.declared.Outcome.{Outcome}
use Rattle.run_model.specs.Journals.{Free, Nothing, Out, Setup, Standing, Well, Work, ended_as, holding, is_ending, is_open, is_well, standing}
use Rattle.run_model.specs.Legal.{IsReady, Take, answer_to, decision, is_other_out, next_action, next_poll}
use Rattle.ledger_rows.specs.ActionRows.{is_ready, numbers}
use Rattle.ledger_rows.specs.ActionRows.Values.{Actions}
use Rattle.ledger_rows.specs.Entries.{RowsSay}
use Rattle.ledger_rows.specs.Rows.{StandsAs}
use Rattle.ledger_rows.specs.declared.action_rows.State.{State}
use Rattle.ledger_rows.specs.Workers.{no_worker}
use Rattle.ledger_rows.specs.declared.worker_row.WorkerRow.{WorkerRow}
use Rattle.ledger_rows.proofs.Watching.{differs}
use Rattle.slot_rows.specs.Slots.{AreSlots}
use Rattle.slot_rows.specs.declared.slot_row.SlotRow.{SlotRow}
use Rattle.ledger_ends.specs.Entries.{reply_of}
use Rattle.ledger_core.specs.Ledgers.{IsLedger}
use Rattle.ledger_core.proofs.Asking.{found_below, room_most}
use Rattle.ledger_core.proofs.Deciding.{action_is}
use Rattle.ledger_core.proofs.Ending.{found_passes, holder_below}
use Rattle.ledger_core.proofs.Entries.{Enters, entered, room_of}

-- where a decision is to take an action, it is the next one
take_is : (setup : Setup) (past : List Entry) (w a : ℕ) → decision setup past w ≡ Take a → next_action setup past ≡ Some a
take_is setup past w a d = on (nat_le most_entries (length past)) (is_ending past) (next_action setup past) (next_poll setup past) (is_other_out setup past w) refl d
  where
    on : (t e : Bool) (x p : Option ℕ) (o : Bool) → next_action setup past ≡ x → answer_to t e x p o ≡ Take a → next_action setup past ≡ Some a
    on true e x p o hx h = absurd (cc h)
    on false true x p o hx h = absurd (cc h)
    on false false (Some b) p o hx h = let same : b ≡ a = cc h in hx ∙ ap (λ (k : ℕ). Some k) same
    on false false None (Some s) o hx h = absurd (cc h)
    on false false None None true hx h = absurd (cc h)
    on false false None None false hx h = absurd (cc h)

-- what ended well was answered
pub answered_well : (kind : Option ActionKind) (outcome : Outcome) → is_well (ended_as kind outcome) ≡ true → (outcome ≡ Outcome.Answered (reply_of outcome)) × (ended_as kind (Outcome.Answered (reply_of outcome)) ≡ Well (reply_of outcome))
answered_well (Some kind) (Outcome.Answered reply) h = (refl, by (Rattle.run_model.specs.Journals.is_good kind reply) h)
  where
    by : (t : Bool) → is_well (if t then Well reply else Rattle.run_model.specs.Journals.Badly) ≡ true → (if t then Well reply else Rattle.run_model.specs.Journals.Badly) ≡ Well reply
    by true h = refl
    by false h = absurd (cc h)
answered_well (Some kind) (Outcome.Lost cause) h = absurd (cc h)
answered_well (Some kind) Outcome.NotSent h = absurd (cc h)
answered_well (Some kind) Outcome.Memory h = absurd (cc h)
answered_well None outcome h = absurd (cc h)

module _ (setup : Setup) (journal : Reserved Entry) (rows : Actions) (slots : List SlotRow) (workers : List WorkerRow) (ending : Bool) (is : IsLedger setup journal rows slots workers ending)
    (w a : ℕ) (ready : IsReady setup (reverse journal.items) w) (d : decision setup (reverse journal.items) w ≡ Take a) where
  below : w < length workers
  below = let a = ready.below in let b = is.workers_size in omega (arith, a, b)

  is_first : find (is_ready rows) (numbers rows) ≡ Some a
  is_first = action_is setup journal rows slots workers ending is ∙ take_is setup (reverse journal.items) w a d

  pub ready_there : a < length rows.states
  ready_there = let l = found_below (is_ready rows) 0 (length rows.states) a is_first in omega (arith, l)

  pub may_be_claimed : is_ready rows a ≡ true
  may_be_claimed = found_passes (is_ready rows) 0 (length rows.states) a is_first

  was_idle : (get_or workers w no_worker).out ≡ false
  was_idle = (is.each_worker w ready.below).out_is ∙ ap is_open ready.idle

  pub taken : (new : Actions) (polled : List SlotRow) → RowsSay setup (journal.items ++ Entry.Claim w a ∷ []) new → AreSlots setup (Entry.Claim w a ∷ reverse journal.items) polled
      → (next : Reserved Entry) → next.items ≡ journal.items ++ Entry.Claim w a ∷ [] → 49 ≤ next.spare
      → IsLedger setup next new polled (set workers w (record { out = true; left = (get_or workers w no_worker).left; stopped = (get_or workers w no_worker).stopped })) ending
  taken new polled said watched next items spare = entered setup journal rows slots workers ending is w below (Entry.Claim w a) new polled row ending enters next items
      (let m = room_most workers in let z = is.workers_size in let f = is.few in
      let o : cond {A = ℕ} (get_or workers w no_worker).out 1 0 ≡ 0 = ap (λ (t : Bool). cond {A = ℕ} t 1 0) was_idle in omega (arith, m, z, f, o, spare))
    where
      row : WorkerRow
      row = record { out = true; left = (get_or workers w no_worker).left; stopped = (get_or workers w no_worker).stopped }

      past : List Entry
      past = reverse journal.items

      enters : Enters setup journal rows slots workers ending is w below (Entry.Claim w a) new polled row ending
      enters = record {
        stands = (ready, d);
        said = said;
        watched = watched;
        own = let old = is.each_worker w ready.below in record {
          out_is = sym (ap (λ (t : Bool). is_open (if t then Work a else holding past w)) (eq-eqb w w refl));
          left_is = old.left_is;
          stopped_is = old.stopped_is;
        };
        others = record { held = λ v n. sym (ap (λ (t : Bool). is_open (if t then Work a else holding past v)) (differs w v n)); left = λ v n. refl; stopped = λ v n. refl };
        ending_is = is.ending_is;
        seen = refl;
      }

module _ (setup : Setup) (journal : Reserved Entry) (rows : Actions) (slots : List SlotRow) (workers : List WorkerRow) (ending : Bool) (is : IsLedger setup journal rows slots workers ending)
    (w : ℕ) (outcome : Outcome) (opened : is_open (holding (reverse journal.items) w) ≡ true) where
  of_run : w < setup.limits.workers
  of_run = holder_below is.aim setup (reverse journal.items) w is.legal opened

  pub own_below : w < length workers
  own_below = let a = of_run in let b = is.workers_size in omega (arith, a, b)

  own_out : (get_or workers w no_worker).out ≡ true
  own_out = (is.each_worker w of_run).out_is ∙ opened

  -- there is room for the end
  pub may_end : 1 ≤ journal.spare
  may_end =
      let e = room_of workers w own_below in
      let s : cond {A = ℕ} (get_or workers w no_worker).out 1 0 ≡ 1 = ap (λ (t : Bool). cond {A = ℕ} t 1 0) own_out in
      let h = is.has_room in
      omega (arith, e, s, h)

  pub ended : (new : Actions) (polled : List SlotRow) → RowsSay setup (journal.items ++ Entry.Ended w outcome ∷ []) new → AreSlots setup (Entry.Ended w outcome ∷ reverse journal.items) polled
      → (next : Reserved Entry) → next.items ≡ journal.items ++ Entry.Ended w outcome ∷ [] → journal.spare ≤ next.spare + 1
      → IsLedger setup next new polled (set workers w (record { out = false; left = (get_or workers w no_worker).left; stopped = (get_or workers w no_worker).stopped })) ending
  ended new polled said watched next items spare = entered setup journal rows slots workers ending is w own_below (Entry.Ended w outcome) new polled row ending enters next items
      (let s : cond {A = ℕ} (get_or workers w no_worker).out 1 0 ≡ 1 = ap (λ (t : Bool). cond {A = ℕ} t 1 0) own_out in let h = is.has_room in omega (arith, s, h, spare))
    where
      row : WorkerRow
      row = record { out = false; left = (get_or workers w no_worker).left; stopped = (get_or workers w no_worker).stopped }

      past : List Entry
      past = reverse journal.items

      enters : Enters setup journal rows slots workers ending is w own_below (Entry.Ended w outcome) new polled row ending
      enters = record {
        stands = opened;
        said = said;
        watched = watched;
        own = let old = is.each_worker w of_run in record {
          out_is = sym (ap (λ (t : Bool). is_open (if t then Nothing else holding past w)) (eq-eqb w w refl));
          left_is = old.left_is;
          stopped_is = old.stopped_is;
        };
        others = record { held = λ v n. sym (ap (λ (t : Bool). is_open (if t then Nothing else holding past v)) (differs w v n)); left = λ v n. refl; stopped = λ v n. refl };
        ending_is = is.ending_is;
        seen = refl;
      }

past_default : {X : Type 0} (xs : List X) (d : X) (i : ℕ) → length xs ≤ i → get_or xs i d ≡ d
past_default [] d i l = refl
past_default (x ∷ xs) d zero l = absurd (omega (arith, l))
past_default (x ∷ xs) d (suc i) l = past_default xs d i (omega (arith, l))

-- what is out is one of the rows
pub out_below : (setup : Setup) (journal : List Entry) (rows : Actions) (a : ℕ) → RowsSay setup journal rows → standing setup (reverse journal) a ≡ Out → a < length rows.states
out_below setup journal rows a said out = on (cases_lt a (length rows.states))
  where
    on : (a < length rows.states) ⊎ (length rows.states ≤ a) → a < length rows.states
    on (inl l) = l
    on (inr l) =
        let free : standing setup (reverse journal) a ≡ Free = subst (λ (s : State). StandsAs journal (standing setup (reverse journal) a) s) (past_default rows.states State.Free a l) (said.each a) in
        let bad : Free ≡ Out = sym free ∙ out in absurd (cc bad)
