-- What the only worker of a legal journal holds, and how its actions stand.
use Rattle.std.proofs.Common.{◌≡◌, ℕ, ◌<◌, ◌≤◌, Bool, true, false, List, [], ◌∷◌, length, Option, Some, None, refl, sym, ap, ◌∙◌, subst, arith}
use Rattle.std.proofs.lemmas.Bool.{both_ways, eq-eqb, eqb-false, eqb-true, ne_eqb}
use Rattle.std.specs.Prelude.{if◌then◌else◌, ◌==◌}
use Rattle.engine_types.specs.declared.Aim.{Aim}
use Rattle.engine_types.specs.declared.Entry.{Entry}
use Rattle.run_model.specs.EngineRules.{Among}
use Rattle.run_model.specs.Journals.{Holding, Nothing, Out, Setup, Standing, Watch, Well, Work, ended_as, holding, is_free, is_open, is_well, is_work_on, standing}
use Rattle.run_model.specs.Legal.{IsLegal}
use Rattle.run_model.specs.Plans.{kind_of, needs_of}
use Rattle.run_model.specs.Requests.{OfAction, OfPoll, Source, poll_place, source_of}
use Rattle.run_model.specs.Worlds.{outcome_of}
use Rattle.run_model.proofs.LegalLaws.{claim_allowed, ended_not_free}
use Rattle.run_model.proofs.PlanLaws.{both}
use Rattle.world_laws.proofs.Looks.{all_among}

-- the exchange that a permit of a worker is for
abbrev pub source_for : List Entry → ℕ → Holding → Option Source
source_for past w Nothing = None
source_for past w (Work a) = Some (OfAction a)
source_for past w (Watch s) = Some (OfPoll (poll_place past w))

pub source_is : (past : List Entry) (w : ℕ) (held : Holding) → holding past w ≡ held → source_of past w ≡ source_for past w held
source_is past w Nothing e = rw e refl
source_is past w (Work a) e = rw e refl
source_is past w (Watch s) e = rw e refl

pub eqb_back : (m n : ℕ) → (m == n) ≡ false → (n == m) ≡ false
eqb_back m n e = ne_eqb n m (λ same. eqb-false m n e (sym same))

-- a permit for an action is for that one
work_is : (a : ℕ) (held : Holding) → is_work_on a held ≡ true → held ≡ Work a
work_is a (Work b) e = ap (λ (c : ℕ). Work c) (eqb-true b a e)
work_is a Nothing e = absurd (cc e)
work_is a (Watch s) e = absurd (cc e)

opened : (past : List Entry) (w : ℕ) (held : Holding) → is_open held ≡ true → holding past w ≡ held → is_open (holding past w) ≡ true
opened past w held o e = rw e o

well_not_free : (s : Standing) → is_well s ≡ true → is_free s ≡ true → ⊥
well_not_free (Well reply) e f = cc f
well_not_free _ e f = cc e

-- a poll that comes later hasn't ended
poll_within : (past : List Entry) (w : ℕ) → poll_place past w ≤ length past
poll_within [] w = omega arith
poll_within (Entry.Poll v s ∷ past) w = at (v == w) (poll_within past w)
  where
    at : (t : Bool) → poll_place past w ≤ length past → (if t then length past else poll_place past w) ≤ length (Entry.Poll v s ∷ past)
    at true rest = omega arith
    at false rest = omega (arith, rest)
poll_within (Entry.Claim v b ∷ past) w = let rest = poll_within past w in omega (arith, rest)
poll_within (Entry.Seen observation ∷ past) w = let rest = poll_within past w in omega (arith, rest)
poll_within (Entry.Ended v outcome ∷ past) w = let rest = poll_within past w in omega (arith, rest)
poll_within (Entry.Idle v ∷ past) w = let rest = poll_within past w in omega (arith, rest)
poll_within (Entry.Leave v ∷ past) w = let rest = poll_within past w in omega (arith, rest)
poll_within (Entry.Stop v ∷ past) w = let rest = poll_within past w in omega (arith, rest)
poll_within (Entry.Late v why ∷ past) w = let rest = poll_within past w in omega (arith, rest)
poll_within (Entry.Short v ∷ past) w = let rest = poll_within past w in omega (arith, rest)

later_not_ended : (past : List Entry) (n : ℕ) → length past ≤ n → outcome_of past (OfPoll n) ≡ None
later_not_ended [] n h = refl
later_not_ended (Entry.Ended v outcome ∷ past) n h = at (holding past v) refl (later_not_ended past n (omega (arith, h)))
  where
    other : (t : Bool) → t ≡ false → outcome_of past (OfPoll n) ≡ None → (if t then Some outcome else outcome_of past (OfPoll n)) ≡ None
    other true e rest = absurd (cc e)
    other false e rest = rest

    at : (held : Holding) → holding past v ≡ held → outcome_of past (OfPoll n) ≡ None → outcome_of (Entry.Ended v outcome ∷ past) (OfPoll n) ≡ None
    at Nothing e rest = rw (source_is past v Nothing e) rest
    at (Work a) e rest = rw (source_is past v (Work a) e) rest
    at (Watch s) e rest = rw (source_is past v (Watch s) e)
        (other (n == poll_place past v) (ne_eqb n (poll_place past v) (λ same. let within = poll_within past v in omega (arith, h, within, same))) rest)
later_not_ended (Entry.Claim v b ∷ past) n h = later_not_ended past n (omega (arith, h))
later_not_ended (Entry.Seen observation ∷ past) n h = later_not_ended past n (omega (arith, h))
later_not_ended (Entry.Poll v s ∷ past) n h = later_not_ended past n (omega (arith, h))
later_not_ended (Entry.Idle v ∷ past) n h = later_not_ended past n (omega (arith, h))
later_not_ended (Entry.Leave v ∷ past) n h = later_not_ended past n (omega (arith, h))
later_not_ended (Entry.Stop v ∷ past) n h = later_not_ended past n (omega (arith, h))
later_not_ended (Entry.Late v why ∷ past) n h = later_not_ended past n (omega (arith, h))
later_not_ended (Entry.Short v ∷ past) n h = later_not_ended past n (omega (arith, h))

-- an action that is free hasn't ended
free_not_ended : (setup : Setup) (past : List Entry) (a : ℕ) → is_free (standing setup past a) ≡ true → outcome_of past (OfAction a) ≡ None
free_not_ended setup [] a e = refl
free_not_ended setup (Entry.Claim v b ∷ past) a e = at (b == a) (free_not_ended setup past a) e
  where
    at : (t : Bool) → (is_free (standing setup past a) ≡ true → outcome_of past (OfAction a) ≡ None) → is_free (if t then Out else standing setup past a) ≡ true
        → outcome_of past (OfAction a) ≡ None
    at true rest h = absurd (cc h)
    at false rest h = rest h
free_not_ended setup (Entry.Ended v outcome ∷ past) a e = at (holding past v) refl e (free_not_ended setup past a)
  where
    other : (t : Bool) → t ≡ false → outcome_of past (OfAction a) ≡ None → (if t then Some outcome else outcome_of past (OfAction a)) ≡ None
    other true f rest = absurd (cc f)
    other false f rest = rest

    on : (b : ℕ) (t : Bool) → (b == a) ≡ t → is_free (if t then ended_as (kind_of setup.actions a) outcome else standing setup past a) ≡ true
        → (is_free (standing setup past a) ≡ true → outcome_of past (OfAction a) ≡ None) → (if a == b then Some outcome else outcome_of past (OfAction a)) ≡ None
    on b true f h rest = absurd (both_ways _ (ended_not_free (kind_of setup.actions a) outcome) h)
    on b false f h rest = other (a == b) (eqb_back b a f) (rest h)

    at : (held : Holding) → holding past v ≡ held → is_free (standing setup (Entry.Ended v outcome ∷ past) a) ≡ true
        → (is_free (standing setup past a) ≡ true → outcome_of past (OfAction a) ≡ None) → outcome_of (Entry.Ended v outcome ∷ past) (OfAction a) ≡ None
    at Nothing f h rest = rw (source_is past v Nothing f) (rest (rw f at h))
    at (Work b) f h rest = rw (source_is past v (Work b) f) (on b (b == a) refl (rw f at h) rest)
    at (Watch s) f h rest = rw (source_is past v (Watch s) f) (rest (rw f at h))
free_not_ended setup (Entry.Seen observation ∷ past) a e = free_not_ended setup past a e
free_not_ended setup (Entry.Poll v s ∷ past) a e = free_not_ended setup past a e
free_not_ended setup (Entry.Idle v ∷ past) a e = free_not_ended setup past a e
free_not_ended setup (Entry.Leave v ∷ past) a e = free_not_ended setup past a e
free_not_ended setup (Entry.Stop v ∷ past) a e = free_not_ended setup past a e
free_not_ended setup (Entry.Late v why ∷ past) a e = free_not_ended setup past a e
free_not_ended setup (Entry.Short v ∷ past) a e = free_not_ended setup past a e

-- what a claim stands on
pub claim_free : (aim : Aim) (setup : Setup) (past : List Entry) (w a : ℕ) → IsLegal aim setup (Entry.Claim w a ∷ past) → is_free (standing setup past a) ≡ true
claim_free aim setup past w a legal = (both _ _ (both _ _ (claim_allowed aim setup past w a legal)).0).0

pub claim_needs : (aim : Aim) (setup : Setup) (past : List Entry) (w a b : ℕ) → IsLegal aim setup (Entry.Claim w a ∷ past) → Among (needs_of setup.actions a) b
    → is_well (standing setup past b) ≡ true
claim_needs aim setup past w a b legal m =
    all_among (λ (c : ℕ). is_well (standing setup past c)) (needs_of setup.actions a) b (both _ _ (both _ _ (claim_allowed aim setup past w a legal)).0).1 m

module _ (aim : Aim) (setup : Setup) (one : setup.limits.workers ≡ 1) where
  -- whoever holds a permit is the only worker
  pub holder_below : (past : List Entry) (w : ℕ) → IsLegal aim setup past → is_open (holding past w) ≡ true → w < setup.limits.workers
  holder_below [] w legal e = absurd (cc e)
  holder_below (Entry.Claim v a ∷ past) w legal e = at (v == w) refl (holder_below past w legal.0) e
    where
      at : (t : Bool) → (v == w) ≡ t → (is_open (holding past w) ≡ true → w < setup.limits.workers) → is_open (if t then Work a else holding past w) ≡ true → w < setup.limits.workers
      at true h rest f = subst (λ (x : ℕ). x < setup.limits.workers) (eqb-true v w h) legal.1.0.below
      at false h rest f = rest f
  holder_below (Entry.Poll v s ∷ past) w legal e = at (v == w) refl (holder_below past w legal.0) e
    where
      at : (t : Bool) → (v == w) ≡ t → (is_open (holding past w) ≡ true → w < setup.limits.workers) → is_open (if t then Watch s else holding past w) ≡ true → w < setup.limits.workers
      at true h rest f = subst (λ (x : ℕ). x < setup.limits.workers) (eqb-true v w h) legal.1.0.below
      at false h rest f = rest f
  holder_below (Entry.Ended v outcome ∷ past) w legal e = at (v == w) (holder_below past w legal.0) e
    where
      at : (t : Bool) → (is_open (holding past w) ≡ true → w < setup.limits.workers) → is_open (if t then Nothing else holding past w) ≡ true → w < setup.limits.workers
      at true rest f = absurd (cc f)
      at false rest f = rest f
  holder_below (Entry.Seen observation ∷ past) w legal e = holder_below past w legal.0 e
  holder_below (Entry.Idle v ∷ past) w legal e = holder_below past w legal.0 e
  holder_below (Entry.Leave v ∷ past) w legal e = holder_below past w legal.0 e
  holder_below (Entry.Stop v ∷ past) w legal e = holder_below past w legal.0 e
  holder_below (Entry.Late v why ∷ past) w legal e = holder_below past w legal.0 e
  holder_below (Entry.Short v ∷ past) w legal e = holder_below past w legal.0 e

  pub only_holder : (past : List Entry) (w : ℕ) → IsLegal aim setup past → is_open (holding past w) ≡ true → w ≡ 0
  only_holder past w legal e = let below = holder_below past w legal e in omega (arith, below, one)

  -- no other one holds a permit
  none_other : (past : List Entry) (v w : ℕ) (held : Holding) → IsLegal aim setup past → is_open (holding past v) ≡ true → is_open held ≡ true → (v == w) ≡ false
      → holding past w ≡ held → ⊥
  none_other past v w held legal e o apart h =
      eqb-false v w apart (only_holder past v legal e ∙ sym (only_holder past w legal (opened past w held o h)))

  -- an action whose permit is out stands so
  out_is_out : (past : List Entry) (w a : ℕ) → IsLegal aim setup past → holding past w ≡ Work a → standing setup past a ≡ Out
  out_is_out [] w a legal e = absurd (cc e)
  out_is_out (Entry.Claim v b ∷ past) w a legal e = at (v == w) e (out_is_out past w a legal.0)
    where
      either : (t : Bool) → standing setup past a ≡ Out → (if t then Out else standing setup past a) ≡ Out
      either true h = refl
      either false h = h

      at : (t : Bool) → (if t then Work b else holding past w) ≡ Work a → (holding past w ≡ Work a → standing setup past a ≡ Out) → (if b == a then Out else standing setup past a) ≡ Out
      at true f rest = let same : b ≡ a = cc f in rw (eq-eqb b a same) refl
      at false f rest = either (b == a) (rest f)
  out_is_out (Entry.Poll v s ∷ past) w a legal e = at (v == w) e (out_is_out past w a legal.0)
    where
      at : (t : Bool) → (if t then Watch s else holding past w) ≡ Work a → (holding past w ≡ Work a → standing setup past a ≡ Out) → standing setup past a ≡ Out
      at true f rest = absurd (cc f)
      at false f rest = rest f
  out_is_out (Entry.Ended v outcome ∷ past) w a legal e = at (v == w) refl e
    where
      at : (t : Bool) → (v == w) ≡ t → (if t then Nothing else holding past w) ≡ Work a → standing setup (Entry.Ended v outcome ∷ past) a ≡ Out
      at true h f = absurd (cc f)
      at false h f = absurd (none_other past v w (Work a) legal.0 legal.1 refl h f)
  out_is_out (Entry.Seen observation ∷ past) w a legal e = out_is_out past w a legal.0 e
  out_is_out (Entry.Idle v ∷ past) w a legal e = out_is_out past w a legal.0 e
  out_is_out (Entry.Leave v ∷ past) w a legal e = out_is_out past w a legal.0 e
  out_is_out (Entry.Stop v ∷ past) w a legal e = out_is_out past w a legal.0 e
  out_is_out (Entry.Late v why ∷ past) w a legal e = out_is_out past w a legal.0 e
  out_is_out (Entry.Short v ∷ past) w a legal e = out_is_out past w a legal.0 e

  -- what ended well stays so
  well_stays : (entry : Entry) (past : List Entry) (b : ℕ) → IsLegal aim setup (entry ∷ past) → is_well (standing setup past b) ≡ true → is_well (standing setup (entry ∷ past) b) ≡ true
  well_stays (Entry.Claim v c) past b legal e = at (c == b) refl
    where
      at : (t : Bool) → (c == b) ≡ t → is_well (if t then Out else standing setup past b) ≡ true
      at true h = absurd (well_not_free (standing setup past b) e (subst (λ (x : ℕ). is_free (standing setup past x) ≡ true) (eqb-true c b h) (claim_free aim setup past v c legal)))
      at false h = e
  well_stays (Entry.Ended v outcome) past b legal e = at (is_work_on b (holding past v)) refl
    where
      at : (t : Bool) → is_work_on b (holding past v) ≡ t → is_well (if t then ended_as (kind_of setup.actions b) outcome else standing setup past b) ≡ true
      at true h = let out = out_is_out past v b legal.0 (work_is b (holding past v) h) in let bad : is_well Out ≡ true = rw out at e in absurd (cc bad)
      at false h = e
  well_stays (Entry.Seen observation) past b legal e = e
  well_stays (Entry.Poll v s) past b legal e = e
  well_stays (Entry.Idle v) past b legal e = e
  well_stays (Entry.Leave v) past b legal e = e
  well_stays (Entry.Stop v) past b legal e = e
  well_stays (Entry.Late v why) past b legal e = e
  well_stays (Entry.Short v) past b legal e = e

  -- what an action needs that is out ended well
  out_needs : (past : List Entry) (w a b : ℕ) → IsLegal aim setup past → holding past w ≡ Work a → Among (needs_of setup.actions a) b → is_well (standing setup past b) ≡ true
  out_needs [] w a b legal e m = absurd (cc e)
  out_needs (Entry.Claim v c ∷ past) w a b legal e m = well_stays (Entry.Claim v c) past b legal (at (v == w) e (out_needs past w a b legal.0))
    where
      at : (t : Bool) → (if t then Work c else holding past w) ≡ Work a → (holding past w ≡ Work a → Among (needs_of setup.actions a) b → is_well (standing setup past b) ≡ true)
          → is_well (standing setup past b) ≡ true
      at true f rest = let same : c ≡ a = cc f in claim_needs aim setup past v c b legal (subst (λ (x : ℕ). Among (needs_of setup.actions x) b) (sym same) m)
      at false f rest = rest f m
  out_needs (Entry.Poll v s ∷ past) w a b legal e m = at (v == w) e (out_needs past w a b legal.0)
    where
      at : (t : Bool) → (if t then Watch s else holding past w) ≡ Work a → (holding past w ≡ Work a → Among (needs_of setup.actions a) b → is_well (standing setup past b) ≡ true)
          → is_well (standing setup past b) ≡ true
      at true f rest = absurd (cc f)
      at false f rest = rest f m
  out_needs (Entry.Ended v outcome ∷ past) w a b legal e m = well_stays (Entry.Ended v outcome) past b legal (at (v == w) e (out_needs past w a b legal.0))
    where
      at : (t : Bool) → (if t then Nothing else holding past w) ≡ Work a → (holding past w ≡ Work a → Among (needs_of setup.actions a) b → is_well (standing setup past b) ≡ true)
          → is_well (standing setup past b) ≡ true
      at true f rest = absurd (cc f)
      at false f rest = rest f m
  out_needs (Entry.Seen observation ∷ past) w a b legal e m = out_needs past w a b legal.0 e m
  out_needs (Entry.Idle v ∷ past) w a b legal e m = out_needs past w a b legal.0 e m
  out_needs (Entry.Leave v ∷ past) w a b legal e m = out_needs past w a b legal.0 e m
  out_needs (Entry.Stop v ∷ past) w a b legal e m = out_needs past w a b legal.0 e m
  out_needs (Entry.Late v why ∷ past) w a b legal e m = out_needs past w a b legal.0 e m
  out_needs (Entry.Short v ∷ past) w a b legal e m = out_needs past w a b legal.0 e m

  -- what an action needs that ended well did too
  pub well_needs : (past : List Entry) (a b : ℕ) → IsLegal aim setup past → is_well (standing setup past a) ≡ true → Among (needs_of setup.actions a) b → is_well (standing setup past b) ≡ true
  well_needs [] a b legal e m = absurd (cc e)
  well_needs (Entry.Claim v c ∷ past) a b legal e m = well_stays (Entry.Claim v c) past b legal (at (c == a) e (well_needs past a b legal.0))
    where
      at : (t : Bool) → is_well (if t then Out else standing setup past a) ≡ true
          → (is_well (standing setup past a) ≡ true → Among (needs_of setup.actions a) b → is_well (standing setup past b) ≡ true) → is_well (standing setup past b) ≡ true
      at true f rest = absurd (cc f)
      at false f rest = rest f m
  well_needs (Entry.Ended v outcome ∷ past) a b legal e m = well_stays (Entry.Ended v outcome) past b legal (at (is_work_on a (holding past v)) refl e (well_needs past a b legal.0))
    where
      at : (t : Bool) → is_work_on a (holding past v) ≡ t → is_well (if t then ended_as (kind_of setup.actions a) outcome else standing setup past a) ≡ true
          → (is_well (standing setup past a) ≡ true → Among (needs_of setup.actions a) b → is_well (standing setup past b) ≡ true) → is_well (standing setup past b) ≡ true
      at true h f rest = out_needs past v a b legal.0 (work_is a (holding past v) h) m
      at false h f rest = rest f m
  well_needs (Entry.Seen observation ∷ past) a b legal e m = well_needs past a b legal.0 e m
  well_needs (Entry.Poll v s ∷ past) a b legal e m = well_needs past a b legal.0 e m
  well_needs (Entry.Idle v ∷ past) a b legal e m = well_needs past a b legal.0 e m
  well_needs (Entry.Leave v ∷ past) a b legal e m = well_needs past a b legal.0 e m
  well_needs (Entry.Stop v ∷ past) a b legal e m = well_needs past a b legal.0 e m
  well_needs (Entry.Late v why ∷ past) a b legal e m = well_needs past a b legal.0 e m
  well_needs (Entry.Short v ∷ past) a b legal e m = well_needs past a b legal.0 e m

  -- an exchange whose permit is out hasn't ended
  work_not_ended : (past : List Entry) (w a : ℕ) → IsLegal aim setup past → holding past w ≡ Work a → outcome_of past (OfAction a) ≡ None
  work_not_ended [] w a legal e = absurd (cc e)
  work_not_ended (Entry.Claim v b ∷ past) w a legal e = at (v == w) e (work_not_ended past w a legal.0)
    where
      at : (t : Bool) → (if t then Work b else holding past w) ≡ Work a → (holding past w ≡ Work a → outcome_of past (OfAction a) ≡ None) → outcome_of past (OfAction a) ≡ None
      at true f rest = let same : b ≡ a = cc f in
          free_not_ended setup past a (subst (λ (x : ℕ). is_free (standing setup past x) ≡ true) same (claim_free aim setup past v b legal))
      at false f rest = rest f
  work_not_ended (Entry.Poll v s ∷ past) w a legal e = at (v == w) e (work_not_ended past w a legal.0)
    where
      at : (t : Bool) → (if t then Watch s else holding past w) ≡ Work a → (holding past w ≡ Work a → outcome_of past (OfAction a) ≡ None) → outcome_of past (OfAction a) ≡ None
      at true f rest = absurd (cc f)
      at false f rest = rest f
  work_not_ended (Entry.Ended v outcome ∷ past) w a legal e = at (v == w) refl e
    where
      at : (t : Bool) → (v == w) ≡ t → (if t then Nothing else holding past w) ≡ Work a → outcome_of (Entry.Ended v outcome ∷ past) (OfAction a) ≡ None
      at true h f = absurd (cc f)
      at false h f = absurd (none_other past v w (Work a) legal.0 legal.1 refl h f)
  work_not_ended (Entry.Seen observation ∷ past) w a legal e = work_not_ended past w a legal.0 e
  work_not_ended (Entry.Idle v ∷ past) w a legal e = work_not_ended past w a legal.0 e
  work_not_ended (Entry.Leave v ∷ past) w a legal e = work_not_ended past w a legal.0 e
  work_not_ended (Entry.Stop v ∷ past) w a legal e = work_not_ended past w a legal.0 e
  work_not_ended (Entry.Late v why ∷ past) w a legal e = work_not_ended past w a legal.0 e
  work_not_ended (Entry.Short v ∷ past) w a legal e = work_not_ended past w a legal.0 e

  watch_not_ended : (past : List Entry) (w s : ℕ) → IsLegal aim setup past → holding past w ≡ Watch s → outcome_of past (OfPoll (poll_place past w)) ≡ None
  watch_not_ended [] w s legal e = absurd (cc e)
  watch_not_ended (Entry.Claim v b ∷ past) w s legal e = at (v == w) e (watch_not_ended past w s legal.0)
    where
      at : (t : Bool) → (if t then Work b else holding past w) ≡ Watch s → (holding past w ≡ Watch s → outcome_of past (OfPoll (poll_place past w)) ≡ None)
          → outcome_of past (OfPoll (poll_place past w)) ≡ None
      at true f rest = absurd (cc f)
      at false f rest = rest f
  watch_not_ended (Entry.Poll v t ∷ past) w s legal e = at (v == w) e (watch_not_ended past w s legal.0)
    where
      at : (b : Bool) → (if b then Watch t else holding past w) ≡ Watch s → (holding past w ≡ Watch s → outcome_of past (OfPoll (poll_place past w)) ≡ None)
          → outcome_of past (OfPoll (if b then length past else poll_place past w)) ≡ None
      at true f rest = later_not_ended past (length past) (omega arith)
      at false f rest = rest f
  watch_not_ended (Entry.Ended v outcome ∷ past) w s legal e = at (v == w) refl e
    where
      at : (t : Bool) → (v == w) ≡ t → (if t then Nothing else holding past w) ≡ Watch s → outcome_of (Entry.Ended v outcome ∷ past) (OfPoll (poll_place past w)) ≡ None
      at true h f = absurd (cc f)
      at false h f = absurd (none_other past v w (Watch s) legal.0 legal.1 refl h f)
  watch_not_ended (Entry.Seen observation ∷ past) w s legal e = watch_not_ended past w s legal.0 e
  watch_not_ended (Entry.Idle v ∷ past) w s legal e = watch_not_ended past w s legal.0 e
  watch_not_ended (Entry.Leave v ∷ past) w s legal e = watch_not_ended past w s legal.0 e
  watch_not_ended (Entry.Stop v ∷ past) w s legal e = watch_not_ended past w s legal.0 e
  watch_not_ended (Entry.Late v why ∷ past) w s legal e = watch_not_ended past w s legal.0 e
  watch_not_ended (Entry.Short v ∷ past) w s legal e = watch_not_ended past w s legal.0 e

  pub not_ended : (past : List Entry) (w : ℕ) (held : Holding) (source : Source) → IsLegal aim setup past → holding past w ≡ held → source_for past w held ≡ Some source
      → outcome_of past source ≡ None
  not_ended past w Nothing source legal e s = absurd (cc s)
  not_ended past w (Work a) source legal e s = let same : OfAction a ≡ source = cc s in subst (λ (x : Source). outcome_of past x ≡ None) same (work_not_ended past w a legal e)
  not_ended past w (Watch t) source legal e s =
      let same : OfPoll (poll_place past w) ≡ source = cc s in subst (λ (x : Source). outcome_of past x ≡ None) same (watch_not_ended past w t legal e)
