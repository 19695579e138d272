-- What each entry makes of what is said of a clock.
use Rattle.std.proofs.Common.{◌≡◌, ℕ, ◌+◌, ◌<◌, Bool, true, false, cond, List, ◌∷◌, Option, Some, None, if◌then◌else◌, refl, sym, ap, ◌∙◌, arith}
use Rattle.std.proofs.lemmas.Bool.{ne_eqb}
use Rattle.std.specs.Prelude.{◌==◌, nat_le}
use Rattle.engine_types.specs.declared.Entry.{Entry}
use Rattle.engine_types.specs.declared.LateWhy.{LateWhy}
use Rattle.engine_types.specs.declared.Outcome.{Outcome}
use Rattle.outside_api.specs.Clock.{Clock, after_asked, after_pause, placed, read_at}
use Rattle.run_model.specs.Logs.{asks, asks_unstopped, is_ask_of, late_reading, pauses, was_stopped}
use Rattle.ledger_run.specs.Timing.{IsTimed, late_by, readings_for}
use Rattle.ledger_run.proofs.Calm.{IsCalm}

-- how many of worker 0's asks no Stop precedes once it has asked again
abbrev pub asked_so : List Entry → ℕ
asked_so past = if was_stopped past 0 then asks_unstopped past 0 else asks_unstopped past 0 + 1

-- what is said of a clock once worker 0 has looked whether to stop and late it is, and before it asks
pub record IsReadied (deadline : Option ℕ) (past : List Entry) (old new : Clock) : Type 0 where
  pub looks : new.looks ≡ old.looks + asks past 0 + 1
  pub stops : new.yeses ≡ old.yeses + (if was_stopped past 0 then 1 else 0)
  pub paused : new.paused ≡ old.paused + pauses past 0
  pub readings : new.readings ≡ old.readings + readings_for deadline (asked_so past)
  pub first : 0 < old.readings → new.first ≡ old.first
  pub place : (made : ℕ) → old.place ≡ Some made → new.place ≡ Some made
  pub late : late_reading past 0 ≡ late_by deadline (asked_so past) new.last

-- an entry that answers an ask of worker 0, for which its hand pauses so long
pub record IsAsk (entry : Entry) (milliseconds : ℕ) : Type 0 where
  pub is : is_ask_of 0 entry ≡ true
  pub stopped : (past : List Entry) → was_stopped (entry ∷ past) 0 ≡ was_stopped past 0
  pub late : (past : List Entry) → late_reading (entry ∷ past) 0 ≡ late_reading past 0
  pub pauses_are : (past : List Entry) → pauses (entry ∷ past) 0 ≡ pauses past 0 + milliseconds

-- a clock that paused so long, and nothing else
pub record IsPaused (milliseconds : ℕ) (old new : Clock) : Type 0 where
  pub looks : new.looks ≡ old.looks
  pub yeses : new.yeses ≡ old.yeses
  pub paused : new.paused ≡ old.paused + milliseconds
  pub readings : new.readings ≡ old.readings
  pub first : new.first ≡ old.first
  pub place : new.place ≡ old.place
  pub last : new.last ≡ old.last

pub not_paused : (old new : Clock) → new ≡ old → IsPaused 0 old new
not_paused old new e = record {
  looks = ap (λ (c : Clock). c.looks) e;
  yeses = ap (λ (c : Clock). c.yeses) e;
  paused = let p : new.paused ≡ old.paused = ap (λ (c : Clock). c.paused) e in omega (arith, p);
  readings = ap (λ (c : Clock). c.readings) e;
  first = ap (λ (c : Clock). c.first) e;
  place = ap (λ (c : Clock). c.place) e;
  last = ap (λ (c : Clock). c.last) e;
}

pub was_paused : (milliseconds : ℕ) (old new : Clock) → new ≡ after_pause old milliseconds → IsPaused milliseconds old new
was_paused milliseconds old new e = record {
  looks = ap (λ (c : Clock). c.looks) e;
  yeses = ap (λ (c : Clock). c.yeses) e;
  paused = ap (λ (c : Clock). c.paused) e;
  readings = ap (λ (c : Clock). c.readings) e;
  first = ap (λ (c : Clock). c.first) e;
  place = ap (λ (c : Clock). c.place) e;
  last = ap (λ (c : Clock). c.last) e;
}

-- the ask comes
pub ask_timed : (deadline : Option ℕ) (past : List Entry) (start old new : Clock) (entry : Entry) (milliseconds : ℕ)
    → IsReadied deadline past start old → IsAsk entry milliseconds → IsPaused milliseconds old new → IsTimed deadline (entry ∷ past) start new
ask_timed deadline past start old new entry milliseconds r a p = record {
  looks = let e : asks (entry ∷ past) 0 ≡ asks past 0 + 1 = ap (λ (t : Bool). if t then asks past 0 + 1 else asks past 0) a.is in let l = p.looks in let k = r.looks in omega (arith, e, l, k);
  stops = p.yeses ∙ r.stops ∙ ap (λ (t : Bool). start.yeses + (if t then 1 else 0)) (sym (a.stopped past));
  paused = let e = a.pauses_are past in let l = p.paused in let k = r.paused in omega (arith, e, l, k);
  readings = p.readings ∙ r.readings ∙ ap (λ (n : ℕ). start.readings + readings_for deadline n) (sym counted);
  first = λ some. p.first ∙ r.first some;
  place = λ made e. p.place ∙ r.place made e;
  late = a.late past ∙ r.late ∙ ap (λ (n : ℕ). late_by deadline n old.last) (sym counted) ∙ ap (λ (n : ℕ). late_by deadline (asks_unstopped (entry ∷ past) 0) n) (sym p.last);
}
  where
    counted : asks_unstopped (entry ∷ past) 0 ≡ asked_so past
    counted = ap (λ (t : Bool). if was_stopped past 0 then asks_unstopped past 0 else (if t then asks_unstopped past 0 + 1 else asks_unstopped past 0)) a.is

-- the end of a permit is no ask
unasked : (past : List Entry) (w : ℕ) (outcome : Outcome) → asks_unstopped (Entry.Ended w outcome ∷ past) 0 ≡ asks_unstopped past 0
unasked past w outcome = by (was_stopped past 0)
  where
    by : (t : Bool) → (if t then asks_unstopped past 0 else asks_unstopped past 0) ≡ asks_unstopped past 0
    by true = refl
    by false = refl

pub ended_timed : (deadline : Option ℕ) (past : List Entry) (start new : Clock) (w : ℕ) (outcome : Outcome) → IsTimed deadline past start new
    → IsTimed deadline (Entry.Ended w outcome ∷ past) start new
ended_timed deadline past start new w outcome t = record {
  looks = t.looks;
  stops = t.stops;
  paused = t.paused;
  readings = t.readings ∙ ap (λ (n : ℕ). start.readings + readings_for deadline n) (sym (unasked past w outcome));
  first = t.first;
  place = t.place;
  late = t.late ∙ ap (λ (n : ℕ). late_by deadline n new.last) (sym (unasked past w outcome));
}

-- the worker is asked to stop
pub stop_readied : (deadline : Option ℕ) (past : List Entry) (start old : Clock) → IsTimed deadline past start old → IsCalm past 0
    → IsReadied deadline (Entry.Stop 0 ∷ past) start (after_asked old true)
stop_readied deadline past start old t c = record {
  looks = let l = t.looks in omega (arith, l);
  stops = let n : cond {A = ℕ} (was_stopped past 0) 1 0 ≡ 0 = ap (λ (b : Bool). cond {A = ℕ} b 1 0) c.unstopped in let s = t.stops in omega (arith, n, s);
  paused = t.paused;
  readings = t.readings ∙ ap (λ (n : ℕ). start.readings + readings_for deadline n) (sym counted);
  first = t.first;
  place = t.place;
  late = t.late ∙ ap (λ (n : ℕ). late_by deadline n old.last) (sym counted);
}
  where
    counted : asked_so (Entry.Stop 0 ∷ past) ≡ asks_unstopped past 0
    counted = ap (λ (b : Bool). if b then asks_unstopped past 0 else asks_unstopped past 0) c.unstopped

-- it isn't, and there is no deadline
pub none_readied : (past : List Entry) (start old : Clock) → IsTimed None past start old → IsReadied None past start (after_asked old false)
none_readied past start old t = record {
  looks = let l = t.looks in omega (arith, l);
  stops = t.stops;
  paused = t.paused;
  readings = t.readings;
  first = t.first;
  place = t.place;
  late = t.late;
}

-- it isn't, and its clock is read: these are the counts after the reading, whether it comes to a Late or not
record IsRead (made deadline : ℕ) (past : List Entry) (start old : Clock) (reading : ℕ) : Type 0 where
  looks : old.looks + 1 ≡ start.looks + asks past 0 + 1
  stops : old.yeses ≡ start.yeses + 0
  readings : old.readings + 1 ≡ start.readings + (asks_unstopped past 0 + 1)
  first : 0 < start.readings → (if old.readings == 0 then reading else old.first) ≡ start.first
  place : (first : ℕ) → start.place ≡ Some first → placed made old.place ≡ Some first

is_read : (made deadline : ℕ) (past : List Entry) (start old : Clock) (reading : ℕ) → IsTimed (Some deadline) past start old → IsCalm past 0 → IsRead made deadline past start old reading
is_read made deadline past start old reading t c = record {
  looks = let l = t.looks in omega (arith, l);
  stops = t.stops ∙ ap (λ (b : Bool). start.yeses + cond {A = ℕ} b 1 0) c.unstopped;
  readings = let r = t.readings in omega (arith, r);
  first = λ some. ap (λ (b : Bool). if b then reading else old.first) (ne_eqb old.readings 0 (λ e. let r = t.readings in omega (arith, r, some, e))) ∙ t.first some;
  place = λ first e. ap (placed made) (t.place first e);
}

pub read_readied : (made deadline : ℕ) (past : List Entry) (start old : Clock) (reading : ℕ) → IsTimed (Some deadline) past start old → IsCalm past 0
    → nat_le deadline reading ≡ false → IsReadied (Some deadline) past start (read_at made (after_asked old false) reading)
read_readied made deadline past start old reading t c early = record {
  looks = r.looks;
  stops = t.stops;
  paused = t.paused;
  readings = r.readings ∙ ap (λ (n : ℕ). start.readings + n) (sym counted);
  first = r.first;
  place = r.place;
  late = c.in_time ∙ sym (ap (λ (n : ℕ). late_by (Some deadline) n reading) counted ∙ by (asks_unstopped past 0));
}
  where
    r : IsRead made deadline past start old reading
    r = is_read made deadline past start old reading t c

    counted : asked_so past ≡ asks_unstopped past 0 + 1
    counted = ap (λ (b : Bool). if b then asks_unstopped past 0 else asks_unstopped past 0 + 1) c.unstopped

    by : (n : ℕ) → late_by (Some deadline) (n + 1) reading ≡ None
    by n = ap (λ (b : Bool). if (n + 1) == 0 then None else if b then Some reading else None) early ∙ never None ((n + 1) == 0)
      where
        never : (o : Option ℕ) (b : Bool) → (if b then o else o) ≡ o
        never o true = refl
        never o false = refl

pub late_readied : (made deadline : ℕ) (past : List Entry) (start old : Clock) (reading : ℕ) → IsTimed (Some deadline) past start old → IsCalm past 0
    → nat_le deadline reading ≡ true → IsReadied (Some deadline) (Entry.Late 0 (LateWhy.Deadline reading) ∷ past) start (read_at made (after_asked old false) reading)
late_readied made deadline past start old reading t c late = record {
  looks = r.looks;
  stops = t.stops;
  paused = t.paused;
  readings = r.readings ∙ ap (λ (n : ℕ). start.readings + n) (sym counted);
  first = r.first;
  place = r.place;
  late = sym (ap (λ (n : ℕ). late_by (Some deadline) n reading) counted ∙ by (asks_unstopped past 0));
}
  where
    r : IsRead made deadline past start old reading
    r = is_read made deadline past start old reading t c

    uncounted : asks_unstopped (Entry.Late 0 (LateWhy.Deadline reading) ∷ past) 0 ≡ asks_unstopped past 0
    uncounted = both (was_stopped past 0)
      where
        both : (b : Bool) → (if b then asks_unstopped past 0 else asks_unstopped past 0) ≡ asks_unstopped past 0
        both true = refl
        both false = refl

    counted : asked_so (Entry.Late 0 (LateWhy.Deadline reading) ∷ past) ≡ asks_unstopped past 0 + 1
    counted =
        ap (λ (b : Bool). if b then asks_unstopped (Entry.Late 0 (LateWhy.Deadline reading) ∷ past) 0 else asks_unstopped (Entry.Late 0 (LateWhy.Deadline reading) ∷ past) 0 + 1) c.unstopped
        ∙ ap (λ (n : ℕ). n + 1) uncounted

    by : (n : ℕ) → late_by (Some deadline) (n + 1) reading ≡ Some reading
    by n = ap (λ (b : Bool). if (n + 1) == 0 then None else if b then Some reading else None) late
        ∙ ap (λ (b : Bool). if b then None else Some reading) (ne_eqb (n + 1) 0 (λ e. omega (arith, e)))
