-- What a worker's deed leaves.
use Rattle.std.proofs.Common.{◌≡◌, ℕ, ◌+◌, ◌<◌, ◌≤◌, true, false, List, [], ◌∷◌, length, Option, refl, sym, ap, ◌∙◌, subst, arith}
use Rattle.std.proofs.lemmas.Bool.{true≢false}
use Rattle.engine_types.specs.declared.Entry.{Entry}
use Rattle.engine_types.specs.declared.Outcome.{Outcome}
use Rattle.engine_types.specs.declared.Request.{Request}
use Rattle.outside_api.specs.Clock.{Clock}
use Rattle.run_model.specs.Journals.{Nothing, has_left, holding, is_ending}
use Rattle.journal_laws.specs.Courses.{Course, MayAsk, entries, grown, setup_of}
use Rattle.ledger_run.specs.Tellings.{Telling}
use Rattle.ledger_run.specs.Timing.{IsTimed}
use Rattle.ledger_run.specs.Turns.{Deed, Does, Idles, Leaves, Watches, Works, goes_on}
use Rattle.ledger_run.specs.Works.{EndsByLeaving}
use Rattle.ledger_run.proofs.Calm.{IsGoing, going, is_going}
use Rattle.ledger_run.proofs.Coming.{Came, came_idle, came_quiet, came_watched, came_worked, newest, newest_two}
use Rattle.ledger_run.proofs.Leaving.{IsLeaving, leaving, no_longer}
use Rattle.ledger_run.proofs.Timing.{IsAsk, IsReadied, ask_timed, ended_timed, not_paused, was_paused}

-- the worker goes on: it has come further by one or two entries, which are no end of the run
pub record WentOn (deadline : Option ℕ) (mid new : Course) (t u : Telling) (start : Clock) : Type 0 where
  pub came : Came mid new t u
  pub timed : IsTimed deadline (entries new) start u.clock
  pub going : IsGoing (entries mid)
  pub on : is_ending (entries new) ≡ is_ending (entries mid)
  pub here : has_left (entries new) 0 ≡ has_left (entries mid) 0
  pub longer : length (entries mid) < length (entries new)
  pub short : length (entries new) ≤ length (entries mid) + 2

-- the worker has left
pub record HasLeft (deadline : Option ℕ) (mid new : Course) (t u : Telling) (start : Clock) : Type 0 where
  pub came : Came mid new t u
  pub timed : IsTimed deadline (entries new) start u.clock
  pub left : has_left (entries new) 0 ≡ true
  pub ends : EndsByLeaving new.journal

claims : (a : ℕ) → IsAsk (Entry.Claim 0 a) 0
claims a = record { is = refl; stopped = λ past. refl; late = λ past. refl; pauses_are = λ past. no_longer _ }

polls : (s : ℕ) → IsAsk (Entry.Poll 0 s) 500
polls s = record { is = refl; stopped = λ past. refl; late = λ past. refl; pauses_are = λ past. refl }

idles : IsAsk (Entry.Idle 0) 250
idles = record { is = refl; stopped = λ past. refl; late = λ past. refl; pauses_are = λ past. refl }

module _ (deadline : Option ℕ) (mid : Course) (t u : Telling) (start : Clock) (ready : MayAsk mid 0) (idle : (w : ℕ) → holding (entries mid) w ≡ Nothing)
    (readied : IsReadied deadline (entries mid) start t.clock) where
  two : (first : Entry) (outcome : Outcome) → length (entries (grown (grown mid first) (Entry.Ended 0 outcome))) ≡ length (entries mid) + 2
  two first outcome = let n = ap (λ (past : List Entry). length past) (newest_two mid first (Entry.Ended 0 outcome)) in omega (arith, n)

  works : (a : ℕ) (request : Request) (outcome : Outcome) (new : Course) → Does (Works a request outcome) mid t new u → WentOn deadline mid new t u start
  works a request outcome new d = subst (λ (run : Course). WentOn deadline mid run t u start) (sym d.2) (record {
    came = came_worked mid t u a request outcome ready idle d.0 d.1 d.3;
    timed = subst (λ (past : List Entry). IsTimed deadline past start u.clock) (sym both)
        (subst (λ (c : Clock). IsTimed deadline (Entry.Ended 0 outcome ∷ Entry.Claim 0 a ∷ entries mid) start c) (sym d.3.timed)
        (ended_timed deadline (Entry.Claim 0 a ∷ entries mid) start t.clock 0 outcome
        (ask_timed deadline (entries mid) start t.clock t.clock (Entry.Claim 0 a) 0 readied (claims a) (not_paused t.clock t.clock refl))));
    going = going (setup_of mid) (entries mid) 0 (ap is_going d.0);
    on = ap is_ending both;
    here = ap (λ (past : List Entry). has_left past 0) both;
    longer = let n = two (Entry.Claim 0 a) outcome in omega (arith, n);
    short = let n = two (Entry.Claim 0 a) outcome in omega (arith, n);
  })
    where
      both : entries (grown (grown mid (Entry.Claim 0 a)) (Entry.Ended 0 outcome)) ≡ Entry.Ended 0 outcome ∷ Entry.Claim 0 a ∷ entries mid
      both = newest_two mid (Entry.Claim 0 a) (Entry.Ended 0 outcome)

  watches : (s : ℕ) (request : Request) (outcome : Outcome) (new : Course) → Does (Watches s request outcome) mid t new u → WentOn deadline mid new t u start
  watches s request outcome new d = subst (λ (run : Course). WentOn deadline mid run t u start) (sym d.2) (record {
    came = came_watched mid t d.3 u s request outcome ready idle d.0 d.1 d.4 d.5;
    timed = subst (λ (past : List Entry). IsTimed deadline past start u.clock) (sym both)
        (subst (λ (c : Clock). IsTimed deadline (Entry.Ended 0 outcome ∷ Entry.Poll 0 s ∷ entries mid) start c) (sym d.5.timed)
        (ended_timed deadline (Entry.Poll 0 s ∷ entries mid) start d.3.clock 0 outcome
        (ask_timed deadline (entries mid) start t.clock d.3.clock (Entry.Poll 0 s) 500 readied (polls s) (was_paused 500 t.clock d.3.clock d.4.timed))));
    going = going (setup_of mid) (entries mid) 0 (ap is_going d.0);
    on = ap is_ending both;
    here = ap (λ (past : List Entry). has_left past 0) both;
    longer = let n = two (Entry.Poll 0 s) outcome in omega (arith, n);
    short = let n = two (Entry.Poll 0 s) outcome in omega (arith, n);
  })
    where
      both : entries (grown (grown mid (Entry.Poll 0 s)) (Entry.Ended 0 outcome)) ≡ Entry.Ended 0 outcome ∷ Entry.Poll 0 s ∷ entries mid
      both = newest_two mid (Entry.Poll 0 s) (Entry.Ended 0 outcome)

  waits : (new : Course) → Does Idles mid t new u → WentOn deadline mid new t u start
  waits new d = subst (λ (run : Course). WentOn deadline mid run t u start) (sym d.1) (record {
    came = came_idle mid t u ready idle d.0 d.2;
    timed = subst (λ (past : List Entry). IsTimed deadline past start u.clock) (sym (newest mid (Entry.Idle 0)))
        (ask_timed deadline (entries mid) start t.clock u.clock (Entry.Idle 0) 250 readied idles (was_paused 250 t.clock u.clock d.2.timed));
    going = going (setup_of mid) (entries mid) 0 (ap is_going d.0);
    on = ap is_ending (newest mid (Entry.Idle 0));
    here = ap (λ (past : List Entry). has_left past 0) (newest mid (Entry.Idle 0));
    longer = omega (arith, one);
    short = omega (arith, one);
  })
    where
      one : length (entries (grown mid (Entry.Idle 0))) ≡ length (entries mid) + 1
      one = let n = ap (λ (past : List Entry). length past) (newest mid (Entry.Idle 0)) in omega (arith, n)

  leaves : (last : Entry) (new : Course) → Does (Leaves last) mid t new u → HasLeft deadline mid new t u start
  leaves last new d = subst (λ (run : Course). HasLeft deadline mid run t u start) (sym d.1) (record {
    came = came_quiet mid last t u ready.begun idle l.quiet l.legal (ap Rattle.ledger_run.specs.Tellings.account_in d.2) (ap (λ (x : Telling). x.engine) d.2);
    timed = subst (λ (past : List Entry). IsTimed deadline past start u.clock) (sym (newest mid last))
        (ask_timed deadline (entries mid) start t.clock u.clock last 0 readied l.asks (not_paused t.clock u.clock (ap (λ (x : Telling). x.clock) d.2)));
    left = ap (λ (past : List Entry). has_left past 0) (newest mid last) ∙ l.left (entries mid);
    ends = record { before = mid.journal; last = last; are = refl; leaves = l.left []; here = ready.here };
  })
    where
      l : IsLeaving mid last
      l = leaving mid last ready d.0

  pub goes : (deed : Deed) (new : Course) → Does deed mid t new u → goes_on deed ≡ true → WentOn deadline mid new t u start
  goes (Leaves last) new d g = absurd (true≢false (sym g))
  goes (Works a request outcome) new d g = works a request outcome new d
  goes (Watches s request outcome) new d g = watches s request outcome new d
  goes Idles new d g = waits new d

  pub gone : (deed : Deed) (new : Course) → Does deed mid t new u → goes_on deed ≡ false → HasLeft deadline mid new t u start
  gone (Leaves last) new d g = leaves last new d
  gone (Works a request outcome) new d g = absurd (true≢false g)
  gone (Watches s request outcome) new d g = absurd (true≢false g)
  gone Idles new d g = absurd (true≢false g)
