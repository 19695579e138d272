-- What the calls of a turn give.
use Rattle.std.proofs.Common.{◌≡◌, ℕ, true, false, List, Option, Some, refl, sym, ap, ◌∙◌}
use Rattle.engine_types.specs.declared.Engine.{Engine}
use Rattle.engine_types.specs.declared.Entry.{Entry}
use Rattle.engine_types.specs.declared.Exchange.{Exchange}
use Rattle.engine_types.specs.declared.Request.{Request}
use Rattle.outside_api.specs.Accounts.{account}
use Rattle.outside_api.specs.Clock.{Clock, after_pause}
use Rattle.outside_api.specs.Hands.{Heard}
use Rattle.run_model.specs.EngineRules.{DriftsTold}
use Rattle.run_model.specs.Journals.{holding}
use Rattle.run_model.specs.Legal.{Decision, Full, Go, Look, Pause, Take}
use Rattle.run_model.specs.Requests.{action_request, poll_request}
use Rattle.journal_laws.specs.Courses.{Course, entries, grown, setup_of}
use Rattle.journal_laws.specs.Laws.{decided}
use Rattle.ledger_core.specs.Answers.{Answers, AsksFor, IsLastEntry, answer_entry, held_by}
use Rattle.ledger_core.specs.declared.asked.Asked.{Asked}
use Rattle.ledger_core.specs.declared.permit.Grant.{Grant}
use Rattle.ledger_core.specs.declared.permit.Permit.{Permit}
use Rattle.ledger_core.proofs.Answering.{below}
use Rattle.ledger_run.specs.Tellings.{Pauses, Telling, telling}
use Rattle.ledger_run.specs.Turns.{Acts, Ends, Idles, Leaves, Polls, Watches, Works}
use Rattle.ledger_run.proofs.Coming.{newest}

-- a hand that tells the same but for its clock
pub told_again : (l l2 : List Exchange) (h h2 : Option (List Heard)) (f f2 : ℕ) (c c2 : Clock) (e e2 : Option Engine) → l2 ≡ l → h2 ≡ h → f2 ≡ f → c2 ≡ c → e2 ≡ e → telling l2 h2 f2 c2 e2 ≡ telling l h f c e
told_again l l2 h h2 f f2 c c2 e e2 p q r s t =
    ap (λ (x : List Exchange). telling x h2 f2 c2 e2) p ∙ ap (λ (x : Option (List Heard)). telling l x f2 c2 e2) q ∙ ap (λ (x : ℕ). telling l h x c2 e2) r
    ∙ ap (λ (x : Clock). telling l h f x e2) s ∙ ap (λ (x : Option Engine). telling l h f c x) t

-- an action was granted
pub record IsWork (run : Course) (permit : Permit) (request : Request) (new : Course) : Type 0 where
  pub action : ℕ
  pub takes : decided run 0 ≡ Take action
  pub own : permit.worker ≡ 0
  pub grant : permit.grant ≡ Grant.Action action
  pub asks : action_request (setup_of run) (entries run) action ≡ Some request
  pub claimed : new ≡ grown run (Entry.Claim 0 action)

pub is_work : (run new : Course) (permit : Permit) (request : Request) → Answers 0 (decided run 0) (Asked.Work permit request)
    → AsksFor (setup_of run) (entries run) (decided run 0) (Asked.Work permit request) → new ≡ grown run (answer_entry 0 (decided run 0) (Asked.Work permit request)) → IsWork run permit request new
is_work run new permit request answers asks entered = by (decided run 0) refl answers asks entered
  where
    by : (d : Decision) → decided run 0 ≡ d → Answers 0 d (Asked.Work permit request) → AsksFor (setup_of run) (entries run) d (Asked.Work permit request)
        → new ≡ grown run (answer_entry 0 d (Asked.Work permit request)) → IsWork run permit request new
    by (Take a) e h q n = record { action = a; takes = e; own = h.0; grant = h.1; asks = q; claimed = n }
    by Full e h q n = absurd h
    by Go e h q n = absurd h
    by (Look s) e h q n = absurd h
    by Pause e h q n = absurd h

-- the worker holds the action that it was granted
pub holds_work : (run new : Course) (permit : Permit) (request : Request) → IsWork run permit request new → holding (entries new) permit.worker ≡ held_by permit.grant
holds_work run new permit request w =
    ap (λ (v : ℕ). holding (entries new) v) w.own ∙ ap (λ (r : Course). holding (entries r) 0) w.claimed
    ∙ ap (λ (past : List Entry). holding past 0) (newest run (Entry.Claim 0 w.action)) ∙ sym (ap held_by w.grant)

-- a poll was granted
pub record IsWatch (run : Course) (permit : Permit) (request : Request) (new : Course) : Type 0 where
  pub slot : ℕ
  pub looks : decided run 0 ≡ Look slot
  pub own : permit.worker ≡ 0
  pub grant : permit.grant ≡ Grant.Slot slot
  pub asks : poll_request (setup_of run) (entries run) slot ≡ Some request
  pub polled : new ≡ grown run (Entry.Poll 0 slot)

pub is_watch : (run new : Course) (permit : Permit) (request : Request) → Answers 0 (decided run 0) (Asked.Watch permit request)
    → AsksFor (setup_of run) (entries run) (decided run 0) (Asked.Watch permit request) → new ≡ grown run (answer_entry 0 (decided run 0) (Asked.Watch permit request)) → IsWatch run permit request new
is_watch run new permit request answers asks entered = by (decided run 0) refl answers asks entered
  where
    by : (d : Decision) → decided run 0 ≡ d → Answers 0 d (Asked.Watch permit request) → AsksFor (setup_of run) (entries run) d (Asked.Watch permit request)
        → new ≡ grown run (answer_entry 0 d (Asked.Watch permit request)) → IsWatch run permit request new
    by (Look s) e h q n = record { slot = s; looks = e; own = h.0; grant = h.1; asks = q; polled = n }
    by Full e h q n = absurd h
    by Go e h q n = absurd h
    by (Take a) e h q n = absurd h
    by Pause e h q n = absurd h

pub holds_watch : (run new : Course) (permit : Permit) (request : Request) → IsWatch run permit request new → holding (entries new) permit.worker ≡ held_by permit.grant
holds_watch run new permit request w =
    ap (λ (v : ℕ). holding (entries new) v) w.own ∙ ap (λ (r : Course). holding (entries r) 0) w.polled
    ∙ ap (λ (past : List Entry). holding past 0) (newest run (Entry.Poll 0 w.slot)) ∙ sym (ap held_by w.grant)

-- there is nothing to do yet
pub is_idle : (run new : Course) → Answers 0 (decided run 0) Asked.Idle → new ≡ grown run (answer_entry 0 (decided run 0) Asked.Idle) → (decided run 0 ≡ Pause) × (new ≡ grown run (Entry.Idle 0))
is_idle run new answers entered = by (decided run 0) refl answers entered
  where
    by : (d : Decision) → decided run 0 ≡ d → Answers 0 d Asked.Idle → new ≡ grown run (answer_entry 0 d Asked.Idle) → (decided run 0 ≡ Pause) × (new ≡ grown run (Entry.Idle 0))
    by Pause e h n = (e, n)
    by Full e h n = absurd h
    by Go e h n = absurd h
    by (Take a) e h n = absurd h
    by (Look s) e h n = absurd h

-- the worker leaves
pub is_left : (run : Course) → Answers 0 (decided run 0) Asked.Leave → IsLastEntry (setup_of run) (entries run) 0 (answer_entry 0 (decided run 0) Asked.Leave)
is_left run answers = by (decided run 0) refl answers
  where
    by : (d : Decision) → decided run 0 ≡ d → Answers 0 d Asked.Leave → IsLastEntry (setup_of run) (entries run) 0 (answer_entry 0 d Asked.Leave)
    by Go e h = (refl, e)
    by Full e h = (refl, e)
    by (Take a) e h = absurd h
    by (Look s) e h = absurd h
    by Pause e h = absurd h

-- it falls short of memory
pub is_short : (run : Course) → Answers 0 (decided run 0) Asked.Short → IsLastEntry (setup_of run) (entries run) 0 (Entry.Short 0)
is_short run answers = (refl, below (setup_of run) (entries run) 0 (λ e. full (decided run 0) e answers))
  where
    full : (d : Decision) → d ≡ Full → Answers 0 d Asked.Short → ⊥
    full Full e h = h
    full Go e h = cc e
    full (Take a) e h = cc e
    full (Look s) e h = cc e
    full Pause e h = cc e

-- a hand that paused tells the same but for its clock and its Engine
pub has_paused : (n : ℕ) (l l2 : List Exchange) (h h2 : Option (List Heard)) (f f2 : ℕ) (c c2 : Clock) (e e2 : Option Engine) → l2 ≡ l → h2 ≡ h → f2 ≡ f → c2 ≡ after_pause c n → DriftsTold e e2
    → Pauses n (telling l h f c e) (telling l2 h2 f2 c2 e2)
has_paused n l l2 h h2 f f2 c c2 e e2 p q r s t = record {
  told = t;
  silent = ap (λ (x : List Exchange). account x h2 f2) p ∙ ap (λ (x : Option (List Heard)). account l x f2) q ∙ ap (λ (x : ℕ). account l h x) r;
  timed = s;
}

-- the deed of a granted action
pub worked : (run mid new : Course) (permit : Permit) (request : Request) (s t : Telling) → IsWork run permit request mid → Ends request permit.worker mid s new t → Acts run s new t true
worked run mid new permit request s t w e = record {
  deed = Works w.action request e.outcome;
  does = (
    w.takes,
    w.asks,
    e.entered ∙ ap (λ (v : ℕ). grown mid (Entry.Ended v e.outcome)) w.own ∙ ap (λ (r : Course). grown r (Entry.Ended 0 e.outcome)) w.claimed,
    e.exchanges,
  );
  going = refl;
}

-- the deed of a granted poll
pub watched : (run mid new : Course) (permit : Permit) (request : Request) (s t : Telling) → IsWatch run permit request mid → Polls request permit.worker mid s new t → Acts run s new t true
watched run mid new permit request s t w p = record {
  deed = Watches w.slot request p.ends.outcome;
  does = (
    w.looks,
    w.asks,
    p.ends.entered ∙ ap (λ (v : ℕ). grown mid (Entry.Ended v p.ends.outcome)) w.own ∙ ap (λ (r : Course). grown r (Entry.Ended 0 p.ends.outcome)) w.polled,
    p.mid,
    p.pauses,
    p.ends.exchanges,
  );
  going = refl;
}

-- of an idle worker
pub idled : (run new : Course) (s t : Telling) → Answers 0 (decided run 0) Asked.Idle → new ≡ grown run (answer_entry 0 (decided run 0) Asked.Idle) → Pauses 250 s t → Acts run s new t true
idled run new s t answers entered p = let i = is_idle run new answers entered in record { deed = Idles; does = (i.0, i.1, p); going = refl }

-- of one that leaves
pub left : (run new : Course) (s : Telling) → Answers 0 (decided run 0) Asked.Leave → new ≡ grown run (answer_entry 0 (decided run 0) Asked.Leave) → Acts run s new s false
left run new s answers entered = record { deed = Leaves (answer_entry 0 (decided run 0) Asked.Leave); does = (is_left run answers, entered, refl); going = refl }

-- of one that falls short
pub fell_short : (run new : Course) (s : Telling) → Answers 0 (decided run 0) Asked.Short → new ≡ grown run (answer_entry 0 (decided run 0) Asked.Short) → Acts run s new s false
fell_short run new s answers entered = record { deed = Leaves (Entry.Short 0); does = (is_short run answers, entered, refl); going = refl }
