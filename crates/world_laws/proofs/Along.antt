-- A fact that is carried along the moves of a run, from the end of its observation on.
use Rattle.std.proofs.Common.{◌≡◌, ℕ, zero, suc, true, false, List, [], ◌∷◌, Option, Some, None, refl, sym, ap, ◌∙◌, subst, slice_get}
use Rattle.std.specs.List.{list_all}
use Rattle.std.specs.Prelude.{option_map}
use Rattle.engine_types.specs.declared.Aim.{Aim}
use Rattle.engine_types.specs.declared.Engine.{Engine}
use Rattle.engine_types.specs.declared.Entry.{Entry}
use Rattle.engine_types.specs.declared.Exchange.{Exchange}
use Rattle.engine_types.specs.declared.Observed.{Observed}
use Rattle.engine_types.specs.declared.Outcome.{Outcome}
use Rattle.engine_types.specs.declared.Reply.{Reply}
use Rattle.engine_types.specs.declared.Request.{Request}
use Rattle.engine_types.specs.declared.Seen.{Seen}
use Rattle.engine_types.specs.declared.SeenEnd.{SeenEnd}
use Rattle.run_model.specs.EngineRules.{Answers, ChangesItself}
use Rattle.run_model.specs.Journals.{Holding, Nothing, Setup, Watch, Work, holding, seen_in}
use Rattle.run_model.specs.Legal.{IsLegal}
use Rattle.run_model.specs.Requests.{OfAction, OfPoll, OfSeen, Source, asked}
use Rattle.run_model.specs.Told.{is_look}
use Rattle.run_model.specs.Worlds.{Changed, Did, IsLeft, MayAct, Move, Took, effect_of, entries_of, is_unsure, outcome_of}
use Rattle.run_model.proofs.PlanLaws.{both}
use Rattle.world_laws.proofs.Finished.{IsRunning, IsUnderWay}
use Rattle.world_laws.proofs.Observing.{IsSeenWell, told_by}
use Rattle.world_laws.proofs.Claimed.{IsAsked, is_asked, poll_inspects}
use Rattle.world_laws.proofs.Effects.{none_before}

-- the end of an observation that saw this
good_end : (observation : Observed) (past : List Entry) (seen : Seen) → seen_in (Entry.Seen observation ∷ past) ≡ Some seen → observation.end ≡ SeenEnd.Good seen
good_end observation past seen e = at observation.end refl
  where
    at : (end : SeenEnd) → observation.end ≡ end → observation.end ≡ SeenEnd.Good seen
    at (SeenEnd.Good s) h = let same : Some s ≡ Some seen = rw h at e in let one : s ≡ seen = cc same in h ∙ ap (λ (x : Seen). SeenEnd.Good x) one
    at (SeenEnd.Bad fault) h = let bad : None ≡ Some seen = rw h at e in absurd (cc bad)

-- a look isn't under way any more
look_sure : (request : Request) (outcome : Outcome) → is_look request outcome ≡ true → is_unsure (Some outcome) ≡ false
look_sure request (Outcome.Answered reply) e = refl
look_sure (Request.ListContainers project) outcome e = absurd (cc e)
look_sure Request.ListNetworks outcome e = absurd (cc e)
look_sure Request.ListVolumes outcome e = absurd (cc e)
look_sure (Request.Image name) outcome e = absurd (cc e)
look_sure (Request.Pull name) outcome e = absurd (cc e)
look_sure _ outcome e = absurd (cc e)

passes_at : (xs : List Exchange) (i : ℕ) (x : Exchange) → list_all (λ (y : Exchange). is_look y.request y.outcome) xs ≡ true → slice_get xs i ≡ Some x → is_look x.request x.outcome ≡ true
passes_at [] i x e h = absurd (cc h)
passes_at (y ∷ ys) zero x e h = let same : y ≡ x = cc h in subst (λ (z : Exchange). is_look z.request z.outcome ≡ true) same (both _ _ e).0
passes_at (y ∷ ys) (suc i) x e h = passes_at ys i x (both _ _ e).1 h

-- after an observation that ended well none of its exchanges may take effect
module _ (aim : Aim) (setup : Setup) (seen : Seen) (i : ℕ) (request : Request) where
  no_look_after : (past : List Entry) → IsLegal aim setup past → seen_in past ≡ Some seen → asked setup past (OfSeen i) ≡ Some request
      → is_unsure (outcome_of past (OfSeen i)) ≡ true → ⊥
  no_look_after [] legal s e u = cc s
  no_look_after (Entry.Seen observation ∷ past) legal s e u = at (slice_get observation.exchanges i) refl e u
    where
      well : IsSeenWell setup.declared aim seen
      well = record { observation = observation; is = legal.1.1; good = good_end observation past seen s }

      at : (o : Option Exchange) → slice_get observation.exchanges i ≡ o → option_map (λ exchange. exchange.request) o ≡ Some request
          → is_unsure (option_map (λ exchange. exchange.outcome) o) ≡ true → ⊥
      at None h f v = cc f
      at (Some x) h f v =
          let sure = look_sure x.request x.outcome (passes_at observation.exchanges i x (told_by setup.declared aim seen well).looks h) in
          let bad : false ≡ true = sym sure ∙ v in cc bad
  no_look_after (Entry.Ended w outcome ∷ past) legal s e u = no_look_after past legal.0 s e (at (holding past w) refl)
    where
      at : (held : Holding) → holding past w ≡ held → is_unsure (outcome_of past (OfSeen i)) ≡ true
      at Nothing h = rw h at u
      at (Work a) h = rw h at u
      at (Watch t) h = rw h at u
  no_look_after (Entry.Claim w a ∷ past) legal s e u = no_look_after past legal.0 s e u
  no_look_after (Entry.Poll w t ∷ past) legal s e u = no_look_after past legal.0 s e u
  no_look_after (Entry.Idle w ∷ past) legal s e u = no_look_after past legal.0 s e u
  no_look_after (Entry.Leave w ∷ past) legal s e u = no_look_after past legal.0 s e u
  no_look_after (Entry.Stop w ∷ past) legal s e u = no_look_after past legal.0 s e u
  no_look_after (Entry.Late w why ∷ past) legal s e u = no_look_after past legal.0 s e u
  no_look_after (Entry.Short w ∷ past) legal s e u = no_look_after past legal.0 s e u

  pub no_look : (moves : List Move) → IsLegal aim setup (entries_of moves) → seen_in (entries_of moves) ≡ Some seen → MayAct setup moves (OfSeen i) request → ⊥
  no_look moves legal s may = at (entries_of moves) refl
    where
      at : (past : List Entry) → entries_of moves ≡ past → ⊥
      at [] e = let bad : None ≡ Some seen = rw e at s in cc bad
      at (entry ∷ past) e =
          let left : (asked setup (entry ∷ past) (OfSeen i) ≡ Some request) × (is_unsure (outcome_of (entry ∷ past) (OfSeen i)) ≡ true) = rw e at may in
          let lawful : IsLegal aim setup (entry ∷ past) = rw e at legal in
          let sees : seen_in (entry ∷ past) ≡ Some seen = rw e at s in
          no_look_after (entry ∷ past) lawful sees left.0 left.1

-- the effect of an action: what was asked for it, the reply, and what became of the Engine
pub record IsEffect (setup : Setup) (moves : List Move) (a : ℕ) (request : Request) (reply : Reply) (old new : Engine) : Type 0 where
  pub asks : IsAsked setup (entries_of moves) a request
  pub none_yet : effect_of moves (OfAction a) ≡ None
  pub answers : Answers old request reply new

-- what holds of a run once its observation has ended well, if each move keeps it: an entry and a poll leave the Engine as it is,
-- and only actions have effects
pub record IsCarried (aim : Aim) (setup : Setup) (first : Engine) (P : List Move → Engine → Type 0) : Type 0 where
  pub begins : (observation : Observed) (moves : List Move) (engine : Engine) → IsUnderWay aim setup first (Did (Entry.Seen observation) ∷ moves) engine
      → entries_of moves ≡ [] → ((a : ℕ) → effect_of moves (OfAction a) ≡ None) → P (Did (Entry.Seen observation) ∷ moves) engine
  pub notes : (entry : Entry) (moves : List Move) (engine : Engine) → IsUnderWay aim setup first moves engine → P moves engine → P (Did entry ∷ moves) engine
  pub acts : (a : ℕ) (request : Request) (reply : Reply) (moves : List Move) (old new : Engine) → IsUnderWay aim setup first moves old
      → IsEffect setup moves a request reply old new → P moves old → P (Took (OfAction a) request reply ∷ moves) new
  pub polls : (n : ℕ) (id : List ℕ) (reply : Reply) (moves : List Move) (engine : Engine) → IsUnderWay aim setup first moves engine → P moves engine
      → P (Took (OfPoll n) (Request.Inspect id) reply ∷ moves) engine
  pub changes : (moves : List Move) (old new : Engine) → IsUnderWay aim setup first moves old → ChangesItself old new → P moves old → P (Changed ∷ moves) new

-- an inspection changes nothing
inspect_same : (old new : Engine) (id : List ℕ) (reply : Reply) → Answers old (Request.Inspect id) reply new → new ≡ old
inspect_same old new id (Reply.Refused status message) h = h
inspect_same old new id (Reply.State report) h = h.1
inspect_same old new id _ h = absurd h

module _ (aim : Aim) (setup : Setup) (first : Engine) (P : List Move → Engine → Type 0) (carried : IsCarried aim setup first P) where
  pub carried_along : (moves : List Move) (last : Engine) → IsUnderWay aim setup first moves last → P moves last
  carried_along [] last run = let bad : None ≡ Some setup.seen = run.saw in absurd (cc bad)
  carried_along (Changed ∷ moves) last run =
      let before : IsUnderWay aim setup first moves run.world.0 = record { plan = run.plan; legal = run.legal; saw = run.saw; world = run.world.1 } in
      carried.changes moves run.world.0 last before run.world.2 (carried_along moves run.world.0 before)
  carried_along (Took source request reply ∷ moves) last run = at source run.world.2.0 (carried_along moves run.world.0 before)
    where
      mid : Engine
      mid = run.world.0

      before : IsUnderWay aim setup first moves mid
      before = record { plan = run.plan; legal = run.legal; saw = run.saw; world = run.world.1 }

      at : (s : Source) → IsLeft setup moves s request → P moves mid → P (Took s request reply ∷ moves) last
      at (OfSeen i) left p = absurd (no_look aim setup setup.seen i request moves run.legal run.saw left.may_act)
      at (OfAction a) left p = carried.acts a request reply moves mid last before
          (record { asks = is_asked setup (entries_of moves) a request left.may_act.0; none_yet = left.no_effect; answers = run.world.2.1 }) p
      at (OfPoll n) left p =
          let q = poll_inspects setup (entries_of moves) n request left.may_act.0 in
          let answers : Answers mid (Request.Inspect q.0) reply last = rw q.1 at run.world.2.1 in
          let same : last ≡ mid = inspect_same mid last q.0 reply answers in
          subst (λ (r : Request). P (Took (OfPoll n) r reply ∷ moves) last) (sym q.1)
          (subst (λ (e : Engine). P (Took (OfPoll n) (Request.Inspect q.0) reply ∷ moves) e) (sym same) (carried.polls n q.0 reply moves mid before p))
  carried_along (Did entry ∷ moves) last run = at entry run.legal run.saw run (λ r. carried_along moves run.world.0 r)
    where
      mid : Engine
      mid = run.world.0

      noted : (e : Entry) → IsLegal aim setup (entries_of moves) → seen_in (entries_of moves) ≡ Some setup.seen → (IsUnderWay aim setup first moves mid → P moves mid)
          → P (Did e ∷ moves) last
      noted e legal saw rest =
          let before : IsUnderWay aim setup first moves mid = record { plan = run.plan; legal = legal; saw = saw; world = run.world.1 } in
          subst (λ (x : Engine). P (Did e ∷ moves) x) (sym run.world.2.1) (carried.notes e moves mid before (rest before))

      at : (e : Entry) → IsLegal aim setup (e ∷ entries_of moves) → seen_in (e ∷ entries_of moves) ≡ Some setup.seen → IsUnderWay aim setup first (Did e ∷ moves) last
          → (IsUnderWay aim setup first moves mid → P moves mid) → P (Did e ∷ moves) last
      at (Entry.Seen observation) legal saw here rest =
          carried.begins observation moves last here legal.1.0 (λ a. none_before setup first mid moves a run.world.1 legal.1.0)
      at (Entry.Claim w a) legal saw here rest = noted (Entry.Claim w a) legal.0 saw rest
      at (Entry.Poll w s) legal saw here rest = noted (Entry.Poll w s) legal.0 saw rest
      at (Entry.Ended w outcome) legal saw here rest = noted (Entry.Ended w outcome) legal.0 saw rest
      at (Entry.Idle w) legal saw here rest = noted (Entry.Idle w) legal.0 saw rest
      at (Entry.Leave w) legal saw here rest = noted (Entry.Leave w) legal.0 saw rest
      at (Entry.Stop w) legal saw here rest = noted (Entry.Stop w) legal.0 saw rest
      at (Entry.Late w why) legal saw here rest = noted (Entry.Late w why) legal.0 saw rest
      at (Entry.Short w) legal saw here rest = noted (Entry.Short w) legal.0 saw rest

-- the same of a run of `up`
pub record IsKept (aim : Aim) (setup : Setup) (first : Engine) (P : List Move → Engine → Type 0) : Type 0 where
  pub begins : (observation : Observed) (moves : List Move) (engine : Engine) → IsRunning aim setup first (Did (Entry.Seen observation) ∷ moves) engine
      → entries_of moves ≡ [] → ((a : ℕ) → effect_of moves (OfAction a) ≡ None) → P (Did (Entry.Seen observation) ∷ moves) engine
  pub notes : (entry : Entry) (moves : List Move) (engine : Engine) → IsRunning aim setup first moves engine → P moves engine → P (Did entry ∷ moves) engine
  pub acts : (a : ℕ) (request : Request) (reply : Reply) (moves : List Move) (old new : Engine) → IsRunning aim setup first moves old
      → IsEffect setup moves a request reply old new → P moves old → P (Took (OfAction a) request reply ∷ moves) new
  pub polls : (n : ℕ) (id : List ℕ) (reply : Reply) (moves : List Move) (engine : Engine) → IsRunning aim setup first moves engine → P moves engine
      → P (Took (OfPoll n) (Request.Inspect id) reply ∷ moves) engine
  pub changes : (moves : List Move) (old new : Engine) → IsRunning aim setup first moves old → ChangesItself old new → P moves old → P (Changed ∷ moves) new

module _ (aim : Aim) (setup : Setup) (first : Engine) (P : List Move → Engine → Type 0) (kept : IsKept aim setup first P) where
  pub holds_along : (moves : List Move) (last : Engine) → IsRunning aim setup first moves last → P moves last
  holds_along moves last run = carried_along aim setup first P carried moves last (record { plan = run.plan; legal = run.legal; saw = run.saw; world = run.world })
    where
      running : (before : List Move) (engine : Engine) → IsUnderWay aim setup first before engine → IsRunning aim setup first before engine
      running before engine way = record { up = run.up; whole = run.whole; own = run.own; plan = way.plan; legal = way.legal; saw = way.saw; world = way.world }

      carried : IsCarried aim setup first P
      carried = record {
        begins = λ observation before engine way empty none. kept.begins observation before engine (running (Did (Entry.Seen observation) ∷ before) engine way) empty none;
        notes = λ entry before engine way p. kept.notes entry before engine (running before engine way) p;
        acts = λ a request reply before old new way effect p. kept.acts a request reply before old new (running before old way) effect p;
        polls = λ n id reply before engine way p. kept.polls n id reply before engine (running before engine way) p;
        changes = λ before old new way change p. kept.changes before old new (running before old way) change p;
      }
