-- The latest poll of a worker says whether its report counts, and what it asked.
use Rattle.std.proofs.Common.{◌≡◌, ℕ, ◌<◌, Bool, true, false, List, [], ◌∷◌, length, Option, Some, None, refl, sym, ap, ◌∙◌, arith}
use Rattle.std.proofs.lemmas.Bool.{eq-eqb, ne_eqb}
use Rattle.std.specs.Option.{option_map_or}
use Rattle.std.specs.Prelude.{if◌then◌else◌, option_and_then, ◌==◌}
use Rattle.engine_types.specs.declared.Entry.{Entry}
use Rattle.engine_types.specs.declared.Request.{Request}
use Rattle.run_model.specs.Conditions.{counts, poll_counts}
use Rattle.run_model.specs.Journals.{Nothing, Setup, Watch, Work, holding}
use Rattle.run_model.specs.Requests.{OfAction, OfPoll, asked, poll_place, poll_request, source_of}
use Rattle.run_report.specs.Claims.{before_poll, slot_polled}

-- a latest poll, one entry further
pub polled_is : (past : List Entry) (entry : Entry) (w : ℕ) → before_poll (entry ∷ past) w ≡ option_map_or (λ s. Some (past, s)) (slot_polled w entry) (before_poll past w)
polled_is past (Entry.Poll v s) w = at (v == w)
  where
    at : (b : Bool) → (if b then Some (past, s) else before_poll past w) ≡ option_map_or (λ (t : ℕ). Some (past, t)) (if b then Some s else None) (before_poll past w)
    at true = refl
    at false = refl
polled_is past (Entry.Claim v a) w = refl
polled_is past (Entry.Ended v outcome) w = refl
polled_is past (Entry.Seen observed) w = refl
polled_is past (Entry.Idle v) w = refl
polled_is past (Entry.Leave v) w = refl
polled_is past (Entry.Stop v) w = refl
polled_is past (Entry.Late v why) w = refl
polled_is past (Entry.Short v) w = refl

-- whether a poll's report counts
abbrev pub poll_counted : Setup → Option (List Entry × ℕ) → Bool
poll_counted setup o = option_map_or (λ (poll : List Entry × ℕ). counts setup poll.0 poll.1) o false

pub counted_is : (setup : Setup) (past : List Entry) (w : ℕ) → poll_counts setup past w ≡ poll_counted setup (before_poll past w)
counted_is setup [] w = refl
counted_is setup (Entry.Poll v s ∷ past) w = at (v == w) (counted_is setup past w)
  where
    at : (b : Bool) → poll_counts setup past w ≡ poll_counted setup (before_poll past w)
        → (if b then counts setup past s else poll_counts setup past w) ≡ poll_counted setup (if b then Some (past, s) else before_poll past w)
    at true rest = refl
    at false rest = rest
counted_is setup (Entry.Claim v a ∷ past) w = counted_is setup past w
counted_is setup (Entry.Ended v outcome ∷ past) w = counted_is setup past w
counted_is setup (Entry.Seen observed ∷ past) w = counted_is setup past w
counted_is setup (Entry.Idle v ∷ past) w = counted_is setup past w
counted_is setup (Entry.Leave v ∷ past) w = counted_is setup past w
counted_is setup (Entry.Stop v ∷ past) w = counted_is setup past w
counted_is setup (Entry.Late v why ∷ past) w = counted_is setup past w
counted_is setup (Entry.Short v ∷ past) w = counted_is setup past w

-- a poll that is out stands among the entries
poll_below : (past : List Entry) (w s : ℕ) → holding past w ≡ Watch s → poll_place past w < length past
poll_below [] w s h = absurd (cc h)
poll_below (Entry.Poll v t ∷ past) w s h = at (v == w) (poll_below past w s) h
  where
    at : (b : Bool) → (holding past w ≡ Watch s → poll_place past w < length past) → (if b then Watch t else holding past w) ≡ Watch s
        → (if b then length past else poll_place past w) < length (Entry.Poll v t ∷ past)
    at true rest k = omega arith
    at false rest k = let r = rest k in omega (arith, r)
poll_below (Entry.Claim v a ∷ past) w s h = at (v == w) (poll_below past w s) h
  where
    at : (b : Bool) → (holding past w ≡ Watch s → poll_place past w < length past) → (if b then Work a else holding past w) ≡ Watch s
        → poll_place past w < length (Entry.Claim v a ∷ past)
    at true rest k = absurd (cc k)
    at false rest k = let r = rest k in omega (arith, r)
poll_below (Entry.Ended v outcome ∷ past) w s h = at (v == w) (poll_below past w s) h
  where
    at : (b : Bool) → (holding past w ≡ Watch s → poll_place past w < length past) → (if b then Nothing else holding past w) ≡ Watch s
        → poll_place past w < length (Entry.Ended v outcome ∷ past)
    at true rest k = absurd (cc k)
    at false rest k = let r = rest k in omega (arith, r)
poll_below (Entry.Seen observed ∷ past) w s h = let r = poll_below past w s h in omega (arith, r)
poll_below (Entry.Idle v ∷ past) w s h = let r = poll_below past w s h in omega (arith, r)
poll_below (Entry.Leave v ∷ past) w s h = let r = poll_below past w s h in omega (arith, r)
poll_below (Entry.Stop v ∷ past) w s h = let r = poll_below past w s h in omega (arith, r)
poll_below (Entry.Late v why ∷ past) w s h = let r = poll_below past w s h in omega (arith, r)
poll_below (Entry.Short v ∷ past) w s h = let r = poll_below past w s h in omega (arith, r)

-- the request of a poll
abbrev pub request_polled : Setup → Option (List Entry × ℕ) → Option Request
request_polled setup o = option_and_then (λ (poll : List Entry × ℕ). poll_request setup poll.0 poll.1) o

-- the poll that is out asked what it was for
pub poll_asked : (setup : Setup) (past : List Entry) (w s : ℕ) → holding past w ≡ Watch s → asked setup past (OfPoll (poll_place past w)) ≡ request_polled setup (before_poll past w)
poll_asked setup [] w s h = absurd (cc h)
poll_asked setup (Entry.Poll v t ∷ past) w s h = at (v == w) (poll_asked setup past w s) h
  where
    at : (b : Bool) → (holding past w ≡ Watch s → asked setup past (OfPoll (poll_place past w)) ≡ request_polled setup (before_poll past w))
        → (if b then Watch t else holding past w) ≡ Watch s
        → asked setup (Entry.Poll v t ∷ past) (OfPoll (if b then length past else poll_place past w)) ≡ request_polled setup (if b then Some (past, t) else before_poll past w)
    at true rest k = ap (λ (x : Bool). if x then poll_request setup past t else asked setup past (OfPoll (length past))) (eq-eqb (length past) (length past) refl)
    at false rest k =
        let below = poll_below past w s k in
        ap (λ (x : Bool). if x then poll_request setup past t else asked setup past (OfPoll (poll_place past w)))
        (ne_eqb (length past) (poll_place past w) (λ same. omega (arith, below, same)))
        ∙ rest k
poll_asked setup (Entry.Claim v a ∷ past) w s h = at (v == w) (poll_asked setup past w s) h
  where
    at : (b : Bool) → (holding past w ≡ Watch s → asked setup past (OfPoll (poll_place past w)) ≡ request_polled setup (before_poll past w))
        → (if b then Work a else holding past w) ≡ Watch s → asked setup past (OfPoll (poll_place past w)) ≡ request_polled setup (before_poll past w)
    at true rest k = absurd (cc k)
    at false rest k = rest k
poll_asked setup (Entry.Ended v outcome ∷ past) w s h = at (v == w) (poll_asked setup past w s) h
  where
    at : (b : Bool) → (holding past w ≡ Watch s → asked setup past (OfPoll (poll_place past w)) ≡ request_polled setup (before_poll past w))
        → (if b then Nothing else holding past w) ≡ Watch s → asked setup past (OfPoll (poll_place past w)) ≡ request_polled setup (before_poll past w)
    at true rest k = absurd (cc k)
    at false rest k = rest k
poll_asked setup (Entry.Seen observed ∷ past) w s h = poll_asked setup past w s h
poll_asked setup (Entry.Idle v ∷ past) w s h = poll_asked setup past w s h
poll_asked setup (Entry.Leave v ∷ past) w s h = poll_asked setup past w s h
poll_asked setup (Entry.Stop v ∷ past) w s h = poll_asked setup past w s h
poll_asked setup (Entry.Late v why ∷ past) w s h = poll_asked setup past w s h
poll_asked setup (Entry.Short v ∷ past) w s h = poll_asked setup past w s h

-- what a worker holds says what was asked
pub asked_nothing : (setup : Setup) (past : List Entry) (w : ℕ) → holding past w ≡ Nothing → None ≡ option_and_then (asked setup past) (source_of past w)
asked_nothing setup past w e = rw e refl

pub asked_work : (setup : Setup) (past : List Entry) (w a : ℕ) → holding past w ≡ Work a → asked setup past (OfAction a) ≡ option_and_then (asked setup past) (source_of past w)
asked_work setup past w a e = rw e refl

pub asked_watch : (setup : Setup) (past : List Entry) (w s : ℕ) → holding past w ≡ Watch s → request_polled setup (before_poll past w) ≡ option_and_then (asked setup past) (source_of past w)
asked_watch setup past w s e = sym (by ∙ poll_asked setup past w s e)
  where
    by : option_and_then (asked setup past) (source_of past w) ≡ asked setup past (OfPoll (poll_place past w))
    by = rw e refl
