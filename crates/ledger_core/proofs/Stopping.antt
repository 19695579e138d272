-- A worker stops: what a ledger's rows say after an entry that changes no action and no slot.
use Rattle.std.proofs.Common.{◌≡◌, ℕ, zero, suc, ◌+◌, ◌<◌, ◌≤◌, Bool, true, false, cond, ◌==◌, List, [], ◌∷◌, ◌++◌, length, reverse, get_or, set, if◌then◌else◌, refl, sym, ap, ◌∙◌, arith}
use Rattle.std.proofs.lemmas.Bool.{eq-eqb, true≢false}
use Rattle.std.specs.Prelude.{is_some, IsSomeAnd}
use Rattle.tree_base.specs.Reserved.{Reserved}
use Rattle.engine_types.specs.declared.Entry.{Entry}
use Rattle.engine_types.specs.declared.LateWhy.{LateWhy}
use Rattle.run_model.specs.Journals.{Holding, Setup, has_left, has_stopped, holding, is_ending, is_open, seen_in}
use Rattle.run_model.specs.Legal.{IsReady, MayStand}
use Rattle.journal_laws.specs.Courses.{first_seen}
use Rattle.ledger_rows.specs.ActionRows.Values.{Actions}
use Rattle.ledger_rows.specs.Laws.{is_quiet}
use Rattle.ledger_rows.specs.Workers.{no_worker}
use Rattle.ledger_rows.specs.declared.worker_row.WorkerRow.{WorkerRow}
use Rattle.ledger_rows.proofs.Turns.{quiet_kept}
use Rattle.ledger_rows.proofs.Watching.{differs}
use Rattle.slot_rows.specs.declared.slot_row.SlotRow.{SlotRow}
use Rattle.ledger_core.specs.Ledgers.{IsLedger}
use Rattle.ledger_core.proofs.Entries.{ChangesNothing, Enters, entered, room_of, slots_kept}

module _ (setup : Setup) (journal : Reserved Entry) (rows : Actions) (slots : List SlotRow) (workers : List WorkerRow) (ending : Bool) (is : IsLedger setup journal rows slots workers ending)
    (w : ℕ) (ready : IsReady setup (reverse journal.items) w) (first_time : has_stopped (reverse journal.items) w ≡ false) where
  below : w < length workers
  below = let a = ready.below in let b = is.workers_size in omega (arith, a, b)

  was_stopped : (get_or workers w no_worker).stopped ≡ false
  was_stopped = (is.each_worker w ready.below).stopped_is ∙ first_time

  -- there is room for the entry
  pub may_push : 1 ≤ journal.spare
  may_push =
      let e = room_of workers w below in
      let s : cond {A = ℕ} (get_or workers w no_worker).stopped 0 1 ≡ 1 = ap (λ (t : Bool). cond {A = ℕ} t 0 1) was_stopped in
      let h = is.has_room in
      omega (arith, e, s, h)

  -- an entry by which the worker has stopped
  pub record Stops (entry : Entry) : Type 0 where
    pub stands : MayStand is.aim setup (reverse journal.items) entry
    pub quiet : is_quiet entry ≡ true
    pub nothing : ChangesNothing setup (reverse journal.items) entry
    pub seen : seen_in (entry ∷ reverse journal.items) ≡ seen_in (reverse journal.items)
    pub ends : is_ending (entry ∷ reverse journal.items) ≡ true
    pub left : has_left (entry ∷ reverse journal.items) ≡ has_left (reverse journal.items)
    pub marks : (v : ℕ) → has_stopped (entry ∷ reverse journal.items) v ≡ (if w == v then true else has_stopped (reverse journal.items) v)

  pub by_stop : Stops (Entry.Stop w)
  by_stop = record { stands = (ready, first_time); quiet = refl; nothing = record { stands = refl; failed = refl; met = refl; held = refl; polled = refl }; seen = refl; ends = refl; left = refl; marks = λ v. refl }

  pub by_late : (reading : ℕ) → IsSomeAnd setup.limits.deadline (λ deadline. deadline ≤ reading) → Stops (Entry.Late w (LateWhy.Deadline reading))
  by_late reading late = record {
    stands = (ready, first_time, late);
    quiet = refl;
    nothing = record { stands = refl; failed = refl; met = refl; held = refl; polled = refl };
    seen = refl;
    ends = refl;
    left = refl;
    marks = λ v. refl;
  }

  pub stopped : (entry : Entry) → Stops entry → (next : Reserved Entry) → next.items ≡ journal.items ++ entry ∷ [] → journal.spare ≤ next.spare + 1
      → IsLedger setup next rows slots (set workers w (record { out = (get_or workers w no_worker).out; left = (get_or workers w no_worker).left; stopped = true })) true
  stopped entry stops next items spare = entered setup journal rows slots workers ending is w below entry rows slots row true enters next items
      (let s : cond {A = ℕ} (get_or workers w no_worker).stopped 0 1 ≡ 1 = ap (λ (t : Bool). cond {A = ℕ} t 0 1) was_stopped in let h = is.has_room in omega (arith, s, h, spare))
    where
      row : WorkerRow
      row = record { out = (get_or workers w no_worker).out; left = (get_or workers w no_worker).left; stopped = true }

      held_as : (v : ℕ) → is_open (holding (reverse journal.items) v) ≡ is_open (holding (entry ∷ reverse journal.items) v)
      held_as v = sym (ap (λ (p : ℕ → Holding). is_open (p v)) stops.nothing.held)

      left_as : (v : ℕ) → has_left (reverse journal.items) v ≡ has_left (entry ∷ reverse journal.items) v
      left_as v = sym (ap (λ (p : ℕ → Bool). p v) stops.left)

      enters : Enters setup journal rows slots workers ending is w below entry rows slots row true
      enters = record {
        stands = stops.stands;
        said = quiet_kept setup journal.items entry rows stops.quiet is.actions;
        watched = slots_kept setup (reverse journal.items) entry slots is.orderly stops.nothing is.watched;
        own = let old = is.each_worker w ready.below in record {
          out_is = old.out_is ∙ held_as w;
          left_is = old.left_is ∙ left_as w;
          stopped_is = sym (stops.marks w ∙ ap (λ (t : Bool). if t then true else has_stopped (reverse journal.items) w) (eq-eqb w w refl));
        };
        others = record {
          held = λ v n. held_as v;
          left = λ v n. left_as v;
          stopped = λ v n. sym (stops.marks v ∙ ap (λ (t : Bool). if t then true else has_stopped (reverse journal.items) v) (differs w v n));
        };
        ending_is = sym stops.ends;
        seen = stops.seen;
      }

-- a row that was read
pub row_read : (rows : List WorkerRow) (w : ℕ) (row : WorkerRow) → w < length rows → row ≡ get_or rows w row → row ≡ get_or rows w no_worker
row_read [] w row l e = absurd (omega arith)
row_read (x ∷ xs) zero row l e = e
row_read (x ∷ xs) (suc w) row l e = row_read xs w row (omega arith) e

-- more entries leave what was seen first
pub seen_kept : (items : List Entry) (entry : Entry) → is_some (seen_in (reverse items)) ≡ true → first_seen (items ++ entry ∷ []) ≡ first_seen items
seen_kept [] entry h = absurd (true≢false (sym h))
seen_kept (Entry.Seen observed ∷ rest) entry h = refl
seen_kept (x ∷ rest) entry h = refl
