-- A worker has looked whether to stop, and else whether it is late.
use Rattle.std.proofs.Common.{◌≡◌, ℕ, ◌≤◌, Bool, true, false, List, [], ◌∷◌, length, Option, Some, None, if◌then◌else◌, refl, sym, ap, ◌∙◌, subst}
use Rattle.std.proofs.lemmas.Bool.{leb-true}
use Rattle.std.proofs.lemmas.List.{append-nil}
use Rattle.std.specs.Prelude.{IsSomeAnd, is_some, nat_le}
use Rattle.engine_types.specs.declared.Entry.{Entry}
use Rattle.engine_types.specs.declared.LateWhy.{LateWhy}
use Rattle.engine_types.specs.declared.Seen.{Seen}
use Rattle.outside_api.specs.Clock.{Clock, after_asked, read_at}
use Rattle.run_model.specs.Journals.{Nothing, has_left, holding, is_ending, seen_in}
use Rattle.journal_laws.specs.Courses.{Course, MayAsk, MayStop, entries, grown}
use Rattle.journal_laws.proofs.Following.{lates, stops}
use Rattle.ledger_run.specs.Tellings.{Telling}
use Rattle.ledger_run.specs.Timing.{IsTimed}
use Rattle.ledger_run.specs.Turns.{Heeds, clock_heeded, heeded, with_more}
use Rattle.ledger_run.proofs.Calm.{IsCalm, calm}
use Rattle.ledger_run.proofs.Coming.{Came, IsQuiet, came_quiet, came_still, newest}
use Rattle.ledger_run.proofs.Timing.{IsReadied, late_readied, none_readied, read_readied, stop_readied}

quiet_stop : IsQuiet (Entry.Stop 0)
quiet_stop = record { seen = λ past. refl; held = λ past w. refl; nothing = λ setup past. refl }

quiet_late : (reading : ℕ) → IsQuiet (Entry.Late 0 (LateWhy.Deadline reading))
quiet_late reading = record { seen = λ past. refl; held = λ past w. refl; nothing = λ setup past. refl }

-- after a quiet entry by which it doesn't leave a worker may still ask
ready_on : (run : Course) (entry : Entry) → MayAsk run 0 → IsQuiet entry → ((past : List Entry) → has_left (entry ∷ past) 0 ≡ has_left past 0) → MayAsk (grown run entry) 0
ready_on run entry ready quiet here = record {
  begun = ap (λ (past : List Entry). is_some (seen_in past)) (newest run entry) ∙ ap (λ (o : Option Seen). is_some o) (quiet.seen (entries run)) ∙ ready.begun;
  below = ready.below;
  idle = ap (λ (past : List Entry). holding past 0) (newest run entry) ∙ quiet.held (entries run) 0 ∙ ready.idle;
  here = ap (λ (past : List Entry). has_left past 0) (newest run entry) ∙ here (entries run) ∙ ready.here;
}

none_more : (run : Course) → run ≡ with_more run []
none_more run = ap (λ (j : List Entry). record run { journal = j }) (sym (append-nil run.journal))

-- whatever it was told, it may still ask
ready_heeded : (run : Course) (deadline : Option ℕ) (asked : Bool) (reading : ℕ) → MayAsk run 0 → MayAsk (with_more run (heeded asked deadline reading)) 0
ready_heeded run deadline true reading ready = ready_on run (Entry.Stop 0) ready quiet_stop (λ past. refl)
ready_heeded run None false reading ready = subst (λ (r : Course). MayAsk r 0) (none_more run) ready
ready_heeded run (Some deadline) false reading ready = by (nat_le deadline reading)
  where
    by : (t : Bool) → MayAsk (with_more run (if t then Entry.Late 0 (LateWhy.Deadline reading) ∷ [] else [])) 0
    by true = ready_on run (Entry.Late 0 (LateWhy.Deadline reading)) ready (quiet_late reading) (λ past. refl)
    by false = subst (λ (r : Course). MayAsk r 0) (none_more run) ready

pub still_ready : (deadline : Option ℕ) (old mid : Course) (before between : Telling) → MayAsk old 0 → Heeds deadline old before mid between → MayAsk mid 0
still_ready deadline old mid before between ready h = subst (λ (r : Course). MayAsk r 0) (sym h.entered) (ready_heeded old deadline h.asked h.reading ready)

-- the pauses stay as they are counted
unpaused : (made : ℕ) (asked : Bool) (deadline : Option ℕ) (reading : ℕ) (clock : Clock) → (clock_heeded made asked deadline reading clock).paused ≡ clock.paused
unpaused made true deadline reading clock = refl
unpaused made false None reading clock = refl
unpaused made false (Some deadline) reading clock = refl

pub still_paused : (deadline : Option ℕ) (old mid : Course) (before between : Telling) → Heeds deadline old before mid between → between.clock.paused ≡ before.clock.paused
still_paused deadline old mid before between h = ap (λ (t : Telling). t.clock.paused) h.hand ∙ unpaused (length before.log) h.asked deadline h.reading before.clock

-- the worker has heeded its limits, and asks next
pub record Heeded (deadline : Option ℕ) (now mid : Course) (s t : Telling) (start : Clock) : Type 0 where
  pub came : Came now mid s t
  pub ready : MayAsk mid 0
  pub readied : IsReadied deadline (entries mid) start t.clock

module _ (now : Course) (s : Telling) (start : Clock) (may : MayStop now 0) (idle : (w : ℕ) → holding (entries now) w ≡ Nothing) (calmly : IsCalm (entries now) 0) where
  stopped : (deadline : Option ℕ) (reading : ℕ) → IsTimed deadline (entries now) start s.clock
      → Heeded deadline now (grown now (Entry.Stop 0)) s (record s { clock = clock_heeded (length s.log) true deadline reading s.clock }) start
  stopped deadline reading t = record {
    came = came_quiet now (Entry.Stop 0) s (record s { clock = clock_heeded (length s.log) true deadline reading s.clock }) may.ready.begun idle quiet_stop (λ aim legal. stops aim now 0 legal may) refl refl;
    ready = ready_on now (Entry.Stop 0) may.ready quiet_stop (λ past. refl);
    readied = subst (λ (past : List Entry). IsReadied deadline past start (clock_heeded (length s.log) true deadline reading s.clock)) (sym (newest now (Entry.Stop 0))) (stop_readied deadline (entries now) start s.clock t calmly);
  }

  unlimited : (reading : ℕ) → IsTimed None (entries now) start s.clock → Heeded None now now s (record s { clock = clock_heeded (length s.log) false None reading s.clock }) start
  unlimited reading t = record {
    came = came_still now s (record s { clock = clock_heeded (length s.log) false None reading s.clock }) may.ready.begun idle refl refl;
    ready = may.ready;
    readied = none_readied (entries now) start s.clock t;
  }

  in_time : (deadline reading : ℕ) → IsTimed (Some deadline) (entries now) start s.clock → nat_le deadline reading ≡ false
      → Heeded (Some deadline) now now s (record s { clock = clock_heeded (length s.log) false (Some deadline) reading s.clock }) start
  in_time deadline reading t early = record {
    came = came_still now s (record s { clock = clock_heeded (length s.log) false (Some deadline) reading s.clock }) may.ready.begun idle refl refl;
    ready = may.ready;
    readied = read_readied (length s.log) deadline (entries now) start s.clock reading t calmly early;
  }

  too_late : (deadline reading : ℕ) → now.limits.deadline ≡ Some deadline → IsTimed (Some deadline) (entries now) start s.clock → nat_le deadline reading ≡ true
      → Heeded (Some deadline) now (grown now (Entry.Late 0 (LateWhy.Deadline reading))) s (record s { clock = clock_heeded (length s.log) false (Some deadline) reading s.clock }) start
  too_late deadline reading limits t late = record {
    came = came_quiet now (Entry.Late 0 (LateWhy.Deadline reading)) s (record s { clock = clock_heeded (length s.log) false (Some deadline) reading s.clock }) may.ready.begun idle (quiet_late reading)
        (λ aim legal. lates aim now 0 reading legal may past_it) refl refl;
    ready = ready_on now (Entry.Late 0 (LateWhy.Deadline reading)) may.ready (quiet_late reading) (λ past. refl);
    readied = subst (λ (past : List Entry). IsReadied (Some deadline) past start (clock_heeded (length s.log) false (Some deadline) reading s.clock)) (sym (newest now (Entry.Late 0 (LateWhy.Deadline reading))))
        (late_readied (length s.log) deadline (entries now) start s.clock reading t calmly late);
  }
    where
      past_it : IsSomeAnd now.limits.deadline (λ d. d ≤ reading)
      past_it = subst (λ (o : Option ℕ). IsSomeAnd o (λ d. d ≤ reading)) (sym limits) (leb-true deadline reading late)

  heeds : (deadline : Option ℕ) (asked : Bool) (reading : ℕ) → now.limits.deadline ≡ deadline → IsTimed deadline (entries now) start s.clock
      → Heeded deadline now (with_more now (heeded asked deadline reading)) s (record s { clock = clock_heeded (length s.log) asked deadline reading s.clock }) start
  heeds deadline true reading limits t = stopped deadline reading t
  heeds None false reading limits t = subst (λ (r : Course). Heeded None now r s (record s { clock = clock_heeded (length s.log) false None reading s.clock }) start) (none_more now) (unlimited reading t)
  heeds (Some deadline) false reading limits t = by (nat_le deadline reading) refl
    where
      by : (b : Bool) → nat_le deadline reading ≡ b
          → Heeded (Some deadline) now (with_more now (if b then Entry.Late 0 (LateWhy.Deadline reading) ∷ [] else [])) s (record s { clock = clock_heeded (length s.log) false (Some deadline) reading s.clock }) start
      by true e = too_late deadline reading limits t e
      by false e = subst (λ (r : Course). Heeded (Some deadline) now r s (record s { clock = clock_heeded (length s.log) false (Some deadline) reading s.clock }) start) (none_more now) (in_time deadline reading t e)

-- it has heeded its limits
pub has_heeded : (deadline : Option ℕ) (now mid : Course) (s t : Telling) (start : Clock) → MayStop now 0 → ((w : ℕ) → holding (entries now) w ≡ Nothing) → is_ending (entries now) ≡ false
    → now.limits.deadline ≡ deadline → IsTimed deadline (entries now) start s.clock → Heeds deadline now s mid t → Heeded deadline now mid s t start
has_heeded deadline now mid s t start may idle on limits timed h =
    subst (λ (r : Course). Heeded deadline now r s t start) (sym h.entered)
    (subst (λ (u : Telling). Heeded deadline now (with_more now (heeded h.asked deadline h.reading)) s u start) (sym h.hand)
    (heeds now s start may idle (calm (entries now) 0 on) deadline h.asked h.reading limits timed))

-- it was told to stop
pub heeds_stop : (deadline : Option ℕ) (old new : Course) (s t : Telling) → new ≡ grown old (Entry.Stop 0) → t ≡ record s { clock = after_asked s.clock true } → Heeds deadline old s new t
heeds_stop deadline old new s t entered hand = record { asked = true; reading = 0; entered = entered; hand = hand }

-- it wasn't, and there is no deadline
pub heeds_none : (deadline : Option ℕ) (old : Course) (s t : Telling) → deadline ≡ None → t ≡ record s { clock = after_asked s.clock false } → Heeds deadline old s old t
heeds_none deadline old s t e hand = subst (λ (d : Option ℕ). Heeds d old s old t) (sym e) (record { asked = false; reading = 0; entered = none_more old; hand = hand })

-- it read its clock at or past the deadline
pub heeds_late : (deadline : Option ℕ) (d reading : ℕ) (old new : Course) (s t : Telling) → deadline ≡ Some d → nat_le d reading ≡ true → new ≡ grown old (Entry.Late 0 (LateWhy.Deadline reading))
    → t ≡ record s { clock = read_at (length s.log) (after_asked s.clock false) reading } → Heeds deadline old s new t
heeds_late deadline d reading old new s t e late entered hand = subst (λ (o : Option ℕ). Heeds o old s new t) (sym e) (record {
  asked = false;
  reading = reading;
  entered = entered ∙ ap (λ (b : Bool). with_more old (if b then Entry.Late 0 (LateWhy.Deadline reading) ∷ [] else [])) (sym late);
  hand = hand;
})

-- it read its clock before the deadline
pub heeds_early : (deadline : Option ℕ) (d reading : ℕ) (old : Course) (s t : Telling) → deadline ≡ Some d → nat_le d reading ≡ false
    → t ≡ record s { clock = read_at (length s.log) (after_asked s.clock false) reading } → Heeds deadline old s old t
heeds_early deadline d reading old s t e early hand = subst (λ (o : Option ℕ). Heeds o old s old t) (sym e) (record {
  asked = false;
  reading = reading;
  entered = none_more old ∙ ap (λ (b : Bool). with_more old (if b then Entry.Late 0 (LateWhy.Deadline reading) ∷ [] else [])) (sym early);
  hand = hand;
})
