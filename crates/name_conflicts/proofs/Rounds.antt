-- Rounds of looking, and what they come to.
use Rattle.std.proofs.Common.{◌≡◌, ℕ, suc, ◌+◌, ◌<◌, ◌≤◌, Bool, true, false, List, [], ◌∷◌, ◌++◌, Option, Some, None, append-nil, refl, sym, ap, ◌∙◌, subst, inl, inr, arith}
use Rattle.engine_types.specs.declared.Exchange.{Exchange}
use Rattle.engine_types.specs.declared.Outcome.{Outcome}
use Rattle.engine_types.specs.declared.Request.{Request}
use Rattle.name_conflicts.specs.Conflicts.{end_by, listing_for, look_end, shown}
use Rattle.name_conflicts.specs.Looks.{Asks, Exchanged, GoesOn, HasLooked, IsRound, ReadsOnce, Sends, before_look, is_late, is_past, is_stopped, most_looks, one_reading}
use Rattle.name_conflicts.specs.declared.look_end.LookEnd.{LookEnd}
use Rattle.outside_api.specs.Clock.{Clock, after_asked, after_pause, read_at}
use Rattle.outside_api.specs.Hands.{Logs, logged}

-- an end that a listing may bring, or none
abbrev is_told : Option LookEnd → Bool
is_told (Some LookEnd.Stopped) = false
is_told (Some LookEnd.Late) = false
is_told (Some LookEnd.Missed) = false
is_told _ = true

told_by : (shows : Option Bool) → is_told (end_by shows) ≡ true
told_by None = refl
told_by (Some true) = refl
told_by (Some false) = refl

told_end : (project : List ℕ) (request : Request) (outcome : Outcome) → is_told (look_end project request outcome) ≡ true
told_end project request (Outcome.Answered reply) = told_by (shown project request reply)
told_end project request (Outcome.Lost cause) = refl
told_end project request Outcome.NotSent = refl
told_end project request Outcome.Memory = refl

module _ (project : List ℕ) (request : Request) where
  -- what was asked brings no end of another kind
  asked_told : (found : Option LookEnd) (made : List Exchange) → Asks project request found made → is_told found ≡ true
  asked_told found made (inl none) = ap is_told none.1
  asked_told found made (inr one) = ap is_told (sym one.3) ∙ told_end project request one.0.outcome

  untold : (found : Option LookEnd) (made : List Exchange) → is_told found ≡ false → Asks project request found made → ⊥
  untold found made never asks = let bad : false ≡ true = sym never ∙ asked_told found made asks in cc bad

  exchanged : (found : Option LookEnd) (made : List Exchange) → Asks project request found made → Exchanged project request found made
  exchanged None made asks = asks
  exchanged (Some LookEnd.Came) made asks = asks
  exchanged (Some LookEnd.Missed) made asks = asks
  exchanged (Some LookEnd.Unlisted) made asks = asks
  exchanged (Some LookEnd.Memory) made asks = asks
  exchanged (Some LookEnd.Stopped) made asks = absurd (untold (Some LookEnd.Stopped) made refl asks)
  exchanged (Some LookEnd.Late) made asks = absurd (untold (Some LookEnd.Late) made refl asks)

  unstopped : (found : Option LookEnd) → is_told found ≡ true → is_stopped found ≡ false
  unstopped None told = refl
  unstopped (Some LookEnd.Came) told = refl
  unstopped (Some LookEnd.Missed) told = refl
  unstopped (Some LookEnd.Unlisted) told = refl
  unstopped (Some LookEnd.Memory) told = refl
  unstopped (Some LookEnd.Late) told = refl
  unstopped (Some LookEnd.Stopped) told = absurd (cc told)

  in_time : (found : Option LookEnd) → is_told found ≡ true → is_late found ≡ false
  in_time None told = refl
  in_time (Some LookEnd.Came) told = refl
  in_time (Some LookEnd.Missed) told = refl
  in_time (Some LookEnd.Unlisted) told = refl
  in_time (Some LookEnd.Memory) told = refl
  in_time (Some LookEnd.Stopped) told = refl
  in_time (Some LookEnd.Late) told = absurd (cc told)

  -- one exchange of the listing
  pub sends : (listing : Request) (outcome : Outcome) (old new : List Exchange) → listing ≡ listing_for project request → Logs old listing outcome new → Sends project request (look_end project request outcome) old new
  sends listing outcome old new is logs = at outcome logs
    where
      one : (o : Outcome) → new ≡ logged old listing o → Sends project request (look_end project request o) old new
      one o e = (record { request = listing; outcome = o } ∷ [], e, inr (record { request = listing; outcome = o }, refl, is, refl))

      at : (o : Outcome) → Logs old listing o new → Sends project request (look_end project request o) old new
      at (Outcome.Answered reply) e = one (Outcome.Answered reply) e
      at (Outcome.Lost cause) e = one (Outcome.Lost cause) e
      at Outcome.NotSent e = one Outcome.NotSent e
      at Outcome.Memory (inl same) = ([], same ∙ sym (append-nil old), inl (refl, refl))
      at Outcome.Memory (inr e) = one Outcome.Memory e

  -- there was no memory for the listing
  pub unsent : (log : List Exchange) → Sends project request (Some LookEnd.Memory) log log
  unsent log = ([], sym (append-nil log), inl (refl, refl))

-- what a round that wasn't stopped makes of a clock before its exchange
pub record Ticks (deadline : Option ℕ) (old new : Clock) : Type 0 where
  pub paused : new.paused ≡ old.paused + before_look
  pub looks : new.looks ≡ old.looks + 1
  pub stops : new.yeses ≡ old.yeses
  pub readings : new.readings ≡ old.readings + one_reading deadline

pub ticks : (deadline : Option ℕ) (made : ℕ) (old paused asked new : Clock) → paused ≡ after_pause old before_look → asked ≡ after_asked paused false → ReadsOnce deadline made asked new → Ticks deadline old new
ticks None made old paused asked new p a r =
    let is : new ≡ after_asked (after_pause old before_look) false = r ∙ (a ∙ ap (λ (c : Clock). after_asked c false) p) in
    let readings : new.readings ≡ old.readings = ap (λ (c : Clock). c.readings) is in record {
      paused = ap (λ (c : Clock). c.paused) is;
      looks = ap (λ (c : Clock). c.looks) is;
      stops = ap (λ (c : Clock). c.yeses) is;
      readings = omega (arith, readings);
    }
ticks (Some limit) made old paused asked new p a r =
    let is : new ≡ read_at made (after_asked (after_pause old before_look) false) new.last = r ∙ ap (λ (c : Clock). read_at made c new.last) (a ∙ ap (λ (c : Clock). after_asked c false) p) in record {
      paused = ap (λ (c : Clock). c.paused) is;
      looks = ap (λ (c : Clock). c.looks) is;
      stops = ap (λ (c : Clock). c.yeses) is;
      readings = ap (λ (c : Clock). c.readings) is;
    }

module _ (project : List ℕ) (request : Request) (deadline : Option ℕ) where
  -- a round in which the hand was told to stop
  pub stopped_round : (log_old log_new : List Exchange) (old paused new : Clock) → log_new ≡ log_old → paused ≡ after_pause old before_look → new ≡ after_asked paused true
      → IsRound project request deadline (Some LookEnd.Stopped) log_old log_new old new
  stopped_round log_old log_new old paused new e p a =
      let is : new ≡ after_asked (after_pause old before_look) true = a ∙ ap (λ (c : Clock). after_asked c true) p in
      let readings : new.readings ≡ old.readings = ap (λ (c : Clock). c.readings) is in record {
        made = [];
        log = e ∙ sym (append-nil log_old);
        exchanged = refl;
        paused = ap (λ (c : Clock). c.paused) is;
        looks = ap (λ (c : Clock). c.looks) is;
        stops = ap (λ (c : Clock). c.yeses) is;
        readings = omega (arith, readings);
        late = refl;
      }

  -- one that met the deadline
  pub late_round : (log_old log_new : List Exchange) (old new : Clock) → log_new ≡ log_old → Ticks deadline old new → is_past deadline new.last ≡ true
      → IsRound project request deadline (Some LookEnd.Late) log_old log_new old new
  late_round log_old log_new old new e t past = let stops = t.stops in record {
    made = [];
    log = e ∙ sym (append-nil log_old);
    exchanged = refl;
    paused = t.paused;
    looks = t.looks;
    stops = omega (arith, stops);
    readings = t.readings;
    late = sym past;
  }

  -- one that asked for the listing
  pub asked_round : (found : Option LookEnd) (log_old log_mid log_new : List Exchange) (old mid new : Clock) → log_mid ≡ log_old → Ticks deadline old mid → is_past deadline mid.last ≡ false
      → Sends project request found log_mid log_new → new ≡ mid → IsRound project request deadline found log_old log_new old new
  asked_round found log_old log_mid log_new old mid new e t early sent same =
      let told = asked_told project request found sent.0 sent.2 in
      let free : is_stopped found ≡ false = unstopped project request found told in
      let stops = t.stops in
      subst (λ (c : Clock). IsRound project request deadline found log_old log_new old c) (sym same) (record {
        made = sent.0;
        log = sent.1 ∙ ap (λ (l : List Exchange). l ++ sent.0) e;
        exchanged = exchanged project request found sent.0 sent.2;
        paused = t.paused;
        looks = t.looks;
        stops = rw free (omega (arith, stops));
        readings = rw free t.readings;
        late = in_time project request found told ∙ rw free (sym early);
      })

  -- no round yet
  pub goes_none : (log : List Exchange) (clock : Clock) → GoesOn project request deadline 0 log log clock clock
  goes_none log clock = (refl, refl)

  -- one round more
  pub goes_more : (n : ℕ) (log_old log log_new : List Exchange) (old clock new : Clock) → GoesOn project request deadline n log_old log old clock → IsRound project request deadline None log log_new clock new
      → GoesOn project request deadline (n + 1) log_old log_new old new
  goes_more n log_old log log_new old clock new goes round =
      let next : suc n ≡ n + 1 = omega arith in
      subst (λ (k : ℕ). GoesOn project request deadline k log_old log_new old new) next (log, clock, goes, round)

  -- a round that ended looking
  pub looked_by : (end : LookEnd) (n : ℕ) (log_old log log_new : List Exchange) (old clock new : Clock) → n < most_looks → GoesOn project request deadline n log_old log old clock
      → IsRound project request deadline (Some end) log log_new clock new → HasLooked project request deadline end log_old log_new old new
  looked_by LookEnd.Came n log_old log log_new old clock new few goes round = (n, few, log, clock, goes, round)
  looked_by LookEnd.Stopped n log_old log log_new old clock new few goes round = (n, few, log, clock, goes, round)
  looked_by LookEnd.Late n log_old log log_new old clock new few goes round = (n, few, log, clock, goes, round)
  looked_by LookEnd.Unlisted n log_old log log_new old clock new few goes round = (n, few, log, clock, goes, round)
  looked_by LookEnd.Memory n log_old log log_new old clock new few goes round = (n, few, log, clock, goes, round)
  looked_by LookEnd.Missed n log_old log log_new old clock new few goes round = absurd (untold project request (Some LookEnd.Missed) round.made refl round.exchanged)

  -- as many rounds as there may be
  pub missed_all : (n : ℕ) (log_old log_new : List Exchange) (old new : Clock) → n ≡ most_looks → GoesOn project request deadline n log_old log_new old new
      → HasLooked project request deadline LookEnd.Missed log_old log_new old new
  missed_all n log_old log_new old new all goes = subst (λ (k : ℕ). GoesOn project request deadline k log_old log_new old new) all goes

-- a clock is read once at most in a round
pub read_once : (deadline : Option ℕ) → one_reading deadline ≤ 1
read_once None = omega arith
read_once (Some limit) = omega arith
