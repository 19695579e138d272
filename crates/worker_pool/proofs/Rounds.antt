-- One round of a worker behind another.
use Rattle.std.proofs.Common.{◌≡◌, ℕ, ◌<◌, Bool, true, false, List, [], ◌∷◌, ◌++◌, length, reverse, Option, Some, None, if◌then◌else◌, refl, sym, ap, ◌∙◌, subst, arith}
use Rattle.std.proofs.lemmas.Bool.{eq-eqb, true≢false}
use Rattle.std.specs.Prelude.{nat_le}
use Rattle.engine_types.specs.declared.Entry.{Entry}
use Rattle.engine_types.specs.declared.LateWhy.{LateWhy}
use Rattle.outside_api.specs.Clock.{Clock, after_asked, after_pause, read_at}
use Rattle.run_model.specs.Journals.{Nothing, has_left, holding}
use Rattle.run_model.specs.Logs.{is_ask_of}
use Rattle.journal_laws.specs.Courses.{Course}
use Rattle.ledger_run.specs.Tellings.{Telling}
use Rattle.ledger_run.specs.Turns.{Deed, Idles, Leaves, Watches, Works, clock_heeded, goes_on}
use Rattle.ledger_run.proofs.Calm.{IsCalm}
use Rattle.ledger_run.proofs.Timing.{not_paused, was_paused}
use Rattle.ledger_turns.specs.Calls.{MayStopBy}
use Rattle.worker_pool.specs.Seats.{IsCalmBefore, IsLast, IsTimedBy, SeatView, TurnsBy, clock_done, deed_entries, heeded_by, mine_of}
use Rattle.worker_pool.proofs.Heeding.{may_ask_still, mine_with}
use Rattle.worker_pool.proofs.Timing.{IsAsk, IsReadied, ask_timed, ended_timed, late_readied, none_readied, read_readied, stop_readied}

-- the clock once the worker has heeded its limits
heeded_timed : (n made : ℕ) (deadline : Option ℕ) (asked : Bool) (reading : ℕ) (past : List Entry) (start old : Clock) → IsTimedBy n deadline past start old → IsCalm past n
    → IsReadied n deadline (reverse (heeded_by n asked deadline reading) ++ past) start (clock_heeded made asked deadline reading old)
heeded_timed n made deadline true reading past start old t c = stop_readied n deadline past start old t c
heeded_timed n made None false reading past start old t c = none_readied n past start old t
heeded_timed n made (Some d) false reading past start old t c = by (nat_le d reading) refl
  where
    by : (b : Bool) → nat_le d reading ≡ b → IsReadied n (Some d) (reverse (if b then Entry.Late n (LateWhy.Deadline reading) ∷ [] else []) ++ past) start (read_at made (after_asked old false) reading)
    by true e = late_readied n made d past start old reading t c e
    by false e = read_readied n made d past start old reading t c e

claim_ask : (n a : ℕ) → IsAsk n (Entry.Claim n a) 0
claim_ask n a = record { is = eq-eqb n n refl; stopped = λ past. refl; late = λ past. refl; pauses_are = λ past. omega arith }

poll_ask : (n s : ℕ) → IsAsk n (Entry.Poll n s) 500
poll_ask n s = record { is = eq-eqb n n refl; stopped = λ past. refl; late = λ past. refl; pauses_are = λ past. rw (eq-eqb n n refl) refl }

idle_ask : (n : ℕ) → IsAsk n (Entry.Idle n) 250
idle_ask n = record { is = eq-eqb n n refl; stopped = λ past. refl; late = λ past. refl; pauses_are = λ past. rw (eq-eqb n n refl) refl }

-- a last entry answers an ask, and pauses nothing
last_ask : (n : ℕ) (e : Entry) → (has_left (e ∷ []) n ≡ true) × (is_ask_of n e ≡ true) → IsAsk n e 0
last_ask n (Entry.Leave v) h = record { is = h.1; stopped = λ past. refl; late = λ past. refl; pauses_are = λ past. omega arith }
last_ask n (Entry.Short v) h = record { is = h.1; stopped = λ past. refl; late = λ past. refl; pauses_are = λ past. omega arith }
last_ask n (Entry.Late v LateWhy.Entries) h = record { is = h.1; stopped = λ past. refl; late = λ past. refl; pauses_are = λ past. omega arith }
last_ask n (Entry.Late v (LateWhy.Deadline reading)) h = absurd (true≢false (sym h.1))
last_ask n (Entry.Claim v a) h = absurd (true≢false (sym h.0))
last_ask n (Entry.Poll v s) h = absurd (true≢false (sym h.0))
last_ask n (Entry.Ended v outcome) h = absurd (true≢false (sym h.0))
last_ask n (Entry.Seen observation) h = absurd (true≢false (sym h.0))
last_ask n (Entry.Idle v) h = absurd (true≢false (sym h.0))
last_ask n (Entry.Stop v) h = absurd (true≢false (sym h.0))

-- and once it has done what it was answered
done_timed : (n : ℕ) (deadline : Option ℕ) (deed : Deed) (past : List Entry) (start old : Clock) → IsReadied n deadline past start old → IsLast n deed
    → IsTimedBy n deadline (reverse (deed_entries n deed) ++ past) start (clock_done deed old)
done_timed n deadline (Leaves last) past start old r l = ask_timed n deadline past start old old last 0 r (last_ask n last l) (not_paused old old refl)
done_timed n deadline (Works a request outcome) past start old r l =
    ended_timed n deadline (Entry.Claim n a ∷ past) start old n outcome (ask_timed n deadline past start old old (Entry.Claim n a) 0 r (claim_ask n a) (not_paused old old refl))
done_timed n deadline (Watches s request outcome) past start old r l =
    ended_timed n deadline (Entry.Poll n s ∷ past) start (after_pause old 500) n outcome (ask_timed n deadline past start old (after_pause old 500) (Entry.Poll n s) 500 r (poll_ask n s) (was_paused 500 old (after_pause old 500) refl))
done_timed n deadline Idles past start old r l = ask_timed n deadline past start old (after_pause old 250) (Entry.Idle n) 250 r (idle_ask n) (was_paused 250 old (after_pause old 250) refl)

pub round_timed : (q : Course) (deadline : Option ℕ) (v w : SeatView) (s t : Telling) (goes : Bool) (start : Clock) → TurnsBy q deadline v w s t goes
    → IsTimedBy v.number deadline (reverse (mine_of q v)) start s.clock → IsCalm (reverse (mine_of q v)) v.number → IsTimedBy w.number deadline (reverse (mine_of q w)) start t.clock
round_timed q deadline v w s t goes start r timed c =
    let h = r.heeds in let a = r.acts in
    let first = heeded_timed v.number (length s.log) deadline h.asked h.reading (reverse (mine_of q v)) start s.clock timed c in
    let mid : IsReadied r.mid.number deadline (reverse (mine_of q r.mid)) start r.between.clock =
    subst (λ (n : ℕ). IsReadied n deadline (reverse (mine_of q r.mid)) start r.between.clock) (sym h.went.number)
    (subst (λ (l : List Entry). IsReadied v.number deadline l start r.between.clock) (sym (mine_with q v r.mid (heeded_by v.number h.asked deadline h.reading) h.went.number h.mine))
    (subst (λ (k : Clock). IsReadied v.number deadline (reverse (heeded_by v.number h.asked deadline h.reading) ++ reverse (mine_of q v)) start k) (sym h.timed) first)) in
    let last = done_timed r.mid.number deadline a.deed (reverse (mine_of q r.mid)) start r.between.clock mid a.last in
    subst (λ (n : ℕ). IsTimedBy n deadline (reverse (mine_of q w)) start t.clock) (sym a.went.number)
    (subst (λ (l : List Entry). IsTimedBy r.mid.number deadline l start t.clock) (sym (mine_with q r.mid w (deed_entries r.mid.number a.deed) a.went.number a.mine))
    (subst (λ (k : Clock). IsTimedBy r.mid.number deadline (reverse (deed_entries r.mid.number a.deed) ++ reverse (mine_of q r.mid)) start k) (sym a.timed) last))

-- where it goes on, it holds nothing, hasn't left, and neither stopped nor was late
record StandsBy (n : ℕ) (past : List Entry) : Type 0 where
  idle : holding past n ≡ Nothing
  here : has_left past n ≡ false
  calm : IsCalm past n

done_stands : (n : ℕ) (deed : Deed) (past : List Entry) → goes_on deed ≡ true → holding past n ≡ Nothing → has_left past n ≡ false → IsCalmBefore n past deed → StandsBy n (reverse (deed_entries n deed) ++ past)
done_stands n (Leaves last) past g i h c = absurd (true≢false (sym g))
done_stands n (Works a request outcome) past g i h c = record { idle = rw (eq-eqb n n refl) refl; here = h; calm = record { first_time = c.0; unstopped = c.1; in_time = c.2 } }
done_stands n (Watches s request outcome) past g i h c = record { idle = rw (eq-eqb n n refl) refl; here = h; calm = record { first_time = c.0; unstopped = c.1; in_time = c.2 } }
done_stands n Idles past g i h c = record { idle = i; here = h; calm = record { first_time = c.0; unstopped = c.1; in_time = c.2 } }

-- between two rounds
pub record Goes (q : Course) (v : SeatView) : Type 0 where
  pub may : MayStopBy q.limits.workers v.number (mine_of q v)
  pub calm : IsCalm (reverse (mine_of q v)) v.number

pub round_goes : (q : Course) (deadline : Option ℕ) (v w : SeatView) (s t : Telling) → TurnsBy q deadline v w s t true → Goes q v → Goes q w
round_goes q deadline v w s t r g =
    let a = r.acts in
    let ready = may_ask_still q deadline v r.mid s r.between r.heeds g.may.ready in
    let m = mine_with q r.mid w (deed_entries r.mid.number a.deed) a.went.number a.mine in
    let d = done_stands r.mid.number a.deed (reverse (mine_of q r.mid)) (sym a.going) ready.idle ready.here a.calm in
    let e : StandsBy w.number (reverse (mine_of q w)) = subst (λ (n : ℕ). StandsBy n (reverse (mine_of q w))) (sym a.went.number) (subst (λ (l : List Entry). StandsBy r.mid.number l) (sym m) d) in record {
      may = record {
        ready = record { below = subst (λ (n : ℕ). n < q.limits.workers) (sym a.went.number) ready.below; idle = e.idle; here = e.here };
        first_time = e.calm.first_time;
      };
      calm = e.calm;
    }

-- it has left
left_by : (n : ℕ) (deed : Deed) (past : List Entry) → goes_on deed ≡ false → IsLast n deed → holding past n ≡ Nothing → (has_left (reverse (deed_entries n deed) ++ past) n ≡ true) × (holding (reverse (deed_entries n deed) ++ past) n ≡ Nothing)
left_by n (Works a request outcome) past g l h = absurd (true≢false g)
left_by n (Watches s request outcome) past g l h = absurd (true≢false g)
left_by n Idles past g l h = absurd (true≢false g)
left_by n (Leaves (Entry.Leave v)) past g l h = (ap (λ (b : Bool). if b then true else has_left past n) l.1, h)
left_by n (Leaves (Entry.Short v)) past g l h = (ap (λ (b : Bool). if b then true else has_left past n) l.1, h)
left_by n (Leaves (Entry.Late v LateWhy.Entries)) past g l h = (ap (λ (b : Bool). if b then true else has_left past n) l.1, h)
left_by n (Leaves (Entry.Late v (LateWhy.Deadline reading))) past g l h = absurd (true≢false (sym l.1))
left_by n (Leaves (Entry.Claim v a)) past g l h = absurd (true≢false (sym l.0))
left_by n (Leaves (Entry.Poll v s)) past g l h = absurd (true≢false (sym l.0))
left_by n (Leaves (Entry.Ended v outcome)) past g l h = absurd (true≢false (sym l.0))
left_by n (Leaves (Entry.Seen observation)) past g l h = absurd (true≢false (sym l.0))
left_by n (Leaves (Entry.Idle v)) past g l h = absurd (true≢false (sym l.0))
left_by n (Leaves (Entry.Stop v)) past g l h = absurd (true≢false (sym l.0))

pub round_left : (q : Course) (deadline : Option ℕ) (v w : SeatView) (s t : Telling) → TurnsBy q deadline v w s t false → Goes q v → (has_left (reverse (mine_of q w)) w.number ≡ true) × (holding (reverse (mine_of q w)) w.number ≡ Nothing)
round_left q deadline v w s t r g =
    let a = r.acts in
    let ready = may_ask_still q deadline v r.mid s r.between r.heeds g.may.ready in
    let m = mine_with q r.mid w (deed_entries r.mid.number a.deed) a.went.number a.mine in
    let d = left_by r.mid.number a.deed (reverse (mine_of q r.mid)) (sym a.going) a.last ready.idle in (
      ap (λ (n : ℕ). has_left (reverse (mine_of q w)) n) a.went.number ∙ ap (λ (l : List Entry). has_left l r.mid.number) m ∙ d.0,
      ap (λ (n : ℕ). holding (reverse (mine_of q w)) n) a.went.number ∙ ap (λ (l : List Entry). holding l r.mid.number) m ∙ d.1,
    )
