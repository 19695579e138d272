-- A run of one worker whose hand tells how the Engine went through its exchanges and pauses has a world.
use Rattle.std.proofs.Common.{◌≡◌, ◌⊎◌, ℕ, zero, suc, ◌≤◌, Bool, true, false, List, [], ◌∷◌, ◌++◌, length, reverse, Option, Some, None, refl, sym, ap, ◌∙◌, subst, inl, inr, arith}
use Rattle.std.proofs.lemmas.Bool.{eq-eqb, ne_eqb}
use Rattle.std.proofs.lemmas.List.{append-nil, append_assoc, reverse-append}
use Rattle.std.specs.Option.{IsSomeAnd}
use Rattle.std.specs.Prelude.{if◌then◌else◌, ◌&&◌, option_and_then}
use Rattle.engine_types.specs.declared.Aim.{Aim}
use Rattle.engine_types.specs.declared.Engine.{Engine}
use Rattle.engine_types.specs.declared.Entry.{Entry}
use Rattle.engine_types.specs.declared.Exchange.{Exchange}
use Rattle.engine_types.specs.declared.Observed.{Observed}
use Rattle.engine_types.specs.declared.Outcome.{Outcome}
use Rattle.engine_types.specs.declared.Reply.{Reply}
use Rattle.engine_types.specs.declared.Request.{Request}
use Rattle.run_model.specs.EngineRules.{Answers, ChangesItselfTimes, Drifts, DriftsTold, Made, Paused, Step, Tells, TellsSteps, exchanges_in, unpaused}
use Rattle.run_model.specs.Journals.{Holding, Nothing, Setup, Watch, Work, holding, is_open}
use Rattle.run_model.specs.Legal.{IsLegal}
use Rattle.run_model.specs.Logs.{exchanges_of}
use Rattle.run_model.specs.Observation.{is_up}
use Rattle.run_model.specs.Plans.{HasPlan, IsWhole}
use Rattle.run_model.specs.Requests.{OfAction, OfPoll, OfSeen, Source, asked, poll_place, request_out, source_of}
use Rattle.run_model.specs.Runs.{run_setup}
use Rattle.run_model.specs.Worlds.{Did, Effect, Fits, FitsLast, FitsOutcome, FitsSeen, IsLeft, IsWorldOf, Changed, MayAct, Move, Took, World, effect_of, entries_of, is_source, is_unsure, outcome_of, seen_effects}
use Rattle.world_laws.specs.Laws.{ToldRunsHaveWorlds}
use Rattle.run_model.proofs.RollLaws.{has_plan}
use Rattle.world_laws.proofs.Asked.{out_asked}
use Rattle.world_laws.proofs.Finished.{basis_of}
use Rattle.world_laws.proofs.OneWorker.{eqb_back, not_ended, only_holder, source_for, source_is}

-- whether an exchange is the observation's
abbrev is_of_seen : Source → Bool
is_of_seen (OfSeen i) = true
is_of_seen _ = false

is_itself : (source : Source) → is_source source source ≡ true
is_itself (OfSeen i) = eq-eqb i i refl
is_itself (OfAction a) = eq-eqb a a refl
is_itself (OfPoll n) = eq-eqb n n refl

apart_back : (source other : Source) → is_source source other ≡ false → is_source other source ≡ false
apart_back (OfSeen i) (OfSeen j) e = eqb_back i j e
apart_back (OfAction a) (OfAction b) e = eqb_back a b e
apart_back (OfPoll m) (OfPoll n) e = eqb_back m n e
apart_back (OfSeen i) (OfAction b) e = refl
apart_back (OfSeen i) (OfPoll n) e = refl
apart_back (OfAction a) (OfSeen j) e = refl
apart_back (OfAction a) (OfPoll n) e = refl
apart_back (OfPoll m) (OfSeen j) e = refl
apart_back (OfPoll m) (OfAction b) e = refl

seen_apart : (i : ℕ) (source : Source) → is_of_seen source ≡ false → is_source (OfSeen i) source ≡ false
seen_apart i (OfSeen j) e = absurd (cc e)
seen_apart i (OfAction a) e = refl
seen_apart i (OfPoll n) e = refl

-- an effect of another exchange before
no_effect_yet : (source other : Source) (request : Request) (reply : Reply) (moves : List Move) → is_source other source ≡ false → effect_of moves source ≡ None
    → effect_of (Took other request reply ∷ moves) source ≡ None
no_effect_yet source other request reply moves e none = rw e none

-- a world of an observation that goes on, after these exchanges, newest first
record Observing (setup : Setup) (first : Engine) (done : List Exchange) (last : Engine) : Type 0 where
  moves : List Move
  bare : entries_of moves ≡ []
  world : World setup first moves last
  fits : FitsSeen done (seen_effects moves)
  fresh : (i : ℕ) → length (seen_effects moves) ≤ i → effect_of moves (OfSeen i) ≡ None
  others : (source : Source) → is_of_seen source ≡ false → effect_of moves source ≡ None

module _ (setup : Setup) (first : Engine) where
  -- nothing took effect
  untaken : (done : List Exchange) (x : Exchange) (last : Engine) (o : Observing setup first done last) → FitsSeen (x ∷ done) (seen_effects o.moves) → Observing setup first (x ∷ done) last
  untaken done x last o fits = record { moves = o.moves; bare = o.bare; world = o.world; fits = fits; fresh = o.fresh; others = o.others }

  -- the next exchange took effect
  taken : (done : List Exchange) (x : Exchange) (reply : Reply) (mid last : Engine) (o : Observing setup first done mid) → Answers mid x.request reply last
      → FitsSeen (x ∷ done) (record { request = x.request; reply = reply } ∷ seen_effects o.moves) → Observing setup first (x ∷ done) last
  taken done x reply mid last o answers fits = record {
    moves = Took (OfSeen place) x.request reply ∷ o.moves;
    bare = o.bare;
    world = (mid, o.world, (left, answers));
    fits = fits;
    fresh = λ i h. no_effect_yet (OfSeen i) (OfSeen place) x.request reply o.moves (ne_eqb place i (λ same. omega (arith, h, same))) (o.fresh i (omega (arith, h)));
    others = λ source e. no_effect_yet source (OfSeen place) x.request reply o.moves (seen_apart place source e) (o.others source e);
  }
    where
      place : ℕ
      place = length (seen_effects o.moves)

      left : IsLeft setup o.moves (OfSeen place) x.request
      left = record { may_act = rw o.bare refl; no_effect = o.fresh place (omega arith) }

  -- where an exchange of this outcome may have had no effect
  none_fits : (request : Request) (outcome : Outcome) (Rest : List Effect → Type 0) (effects : List Effect) → is_unsure (Some outcome) ≡ true → Rest effects
      → FitsLast outcome request Rest effects
  none_fits request (Outcome.Lost cause) Rest [] e r = r
  none_fits request (Outcome.Lost cause) Rest (effect ∷ effects) e r = inl r
  none_fits request Outcome.Memory Rest [] e r = r
  none_fits request Outcome.Memory Rest (effect ∷ effects) e r = inl r
  none_fits request (Outcome.Answered reply) Rest effects e r = absurd (cc e)
  none_fits request Outcome.NotSent Rest effects e r = absurd (cc e)

  -- one more exchange
  observing : (request : Request) (outcome : Outcome) (done : List Exchange) (mid : Engine) (new : Option Engine) → Observing setup first done mid → Tells (Some mid) request outcome new
      → IsSomeAnd new (λ last. Observing setup first (record { request = request; outcome = outcome } ∷ done) last)
  observing request (Outcome.Answered reply) done mid (Some last) o answers =
      taken done (record { request = request; outcome = Outcome.Answered reply }) reply mid last o answers (refl, refl, o.fits)
  observing request (Outcome.Answered reply) done mid None o answers = absurd answers
  observing request Outcome.NotSent done mid new o same = subst (λ (e : Option Engine). IsSomeAnd e (λ last. Observing setup first (record { request = request; outcome = Outcome.NotSent } ∷ done) last))
      (sym same) (untaken done (record { request = request; outcome = Outcome.NotSent }) mid o o.fits)
  observing request (Outcome.Lost cause) done mid new o (inl same) = subst (λ (e : Option Engine). IsSomeAnd e (λ last. Observing setup first (record { request = request; outcome = Outcome.Lost cause } ∷ done) last))
      (sym same) (untaken done (record { request = request; outcome = Outcome.Lost cause }) mid o (none_fits request (Outcome.Lost cause) (FitsSeen done) (seen_effects o.moves) refl o.fits))
  observing request (Outcome.Lost cause) done mid (Some last) o (inr answers) =
      taken done (record { request = request; outcome = Outcome.Lost cause }) answers.0 mid last o answers.1 (inr (refl, o.fits))
  observing request (Outcome.Lost cause) done mid None o (inr answers) = absurd answers
  observing request Outcome.Memory done mid new o (inl same) = subst (λ (e : Option Engine). IsSomeAnd e (λ last. Observing setup first (record { request = request; outcome = Outcome.Memory } ∷ done) last))
      (sym same) (untaken done (record { request = request; outcome = Outcome.Memory }) mid o (none_fits request Outcome.Memory (FitsSeen done) (seen_effects o.moves) refl o.fits))
  observing request Outcome.Memory done mid (Some last) o (inr answers) =
      taken done (record { request = request; outcome = Outcome.Memory }) answers.0 mid last o answers.1 (inr (refl, o.fits))
  observing request Outcome.Memory done mid None o (inr answers) = absurd answers

  -- own changes
  observing_drifts : (n : ℕ) (done : List Exchange) (mid last : Engine) → Observing setup first done mid → ChangesItselfTimes n mid last → Observing setup first done last
  observing_drifts zero done mid last o same = subst (λ (e : Engine). Observing setup first done e) (sym same) o
  observing_drifts (suc n) done mid last o drifts =
      let before = observing_drifts n done mid drifts.0 o drifts.1 in record {
        moves = Changed ∷ before.moves;
        bare = before.bare;
        world = (drifts.0, before.world, drifts.2);
        fits = before.fits;
        fresh = before.fresh;
        others = before.others;
      }

  -- all steps of an observation
  observed_all : (steps : List Step) (done : List Exchange) (mid : Engine) (new : Option Engine) → Observing setup first done mid → TellsSteps steps (Some mid) new
      → IsSomeAnd new (λ last. Observing setup first (reverse (exchanges_in steps) ++ done) last)
  observed_all [] done mid new o told = subst (λ (e : Option Engine). IsSomeAnd e (λ last. Observing setup first done last)) (sym told) o
  observed_all (Made x ∷ steps) done mid new o told =
      at told.0 (observing x.request x.outcome done mid told.0 o told.1) told.2 (λ engine n t. observed_all steps (x ∷ done) engine new n t)
    where
      turned : reverse (x ∷ exchanges_in steps) ++ done ≡ reverse (exchanges_in steps) ++ (x ∷ done)
      turned = ap (λ (l : List Exchange). l ++ done) (reverse-append (x ∷ []) (exchanges_in steps)) ∙ append_assoc (reverse (exchanges_in steps)) (x ∷ []) done

      at : (e : Option Engine) → IsSomeAnd e (λ last. Observing setup first (x ∷ done) last) → TellsSteps steps e new
          → ((engine : Engine) → Observing setup first (x ∷ done) engine → TellsSteps steps (Some engine) new
          → IsSomeAnd new (λ last. Observing setup first (reverse (exchanges_in steps) ++ (x ∷ done)) last))
          → IsSomeAnd new (λ last. Observing setup first (reverse (x ∷ exchanges_in steps) ++ done) last)
      at None n t rest = absurd n
      at (Some engine) n t rest = subst (λ (l : List Exchange). IsSomeAnd new (λ last. Observing setup first l last)) (sym turned) (rest engine n t)
  observed_all (Paused milliseconds ∷ steps) done mid new o told = at told.0 told.1 told.2 (λ engine drifts t. observed_all steps done engine new (observing_drifts drifts.0 done mid engine o drifts.1) t)
    where
      at : (e : Option Engine) → DriftsTold (Some mid) e → TellsSteps steps e new
          → ((engine : Engine) → Drifts mid engine → TellsSteps steps (Some engine) new → IsSomeAnd new (λ last. Observing setup first (reverse (exchanges_in steps) ++ done) last))
          → IsSomeAnd new (λ last. Observing setup first (reverse (exchanges_in steps) ++ done) last)
      at None d t rest = absurd d
      at (Some engine) d t rest = rest engine d t

  nothing_observed : Observing setup first [] first
  nothing_observed = record { moves = []; bare = refl; world = refl; fits = refl; fresh = λ i h. refl; others = λ source e. refl }

-- a world of these entries in which nothing but what ended has taken effect
record Tidy (setup : Setup) (past : List Entry) (first last : Engine) : Type 0 where
  moves : List Move
  is : IsWorldOf setup past first moves last
  clean : (source : Source) → is_of_seen source ≡ false → outcome_of past source ≡ None → effect_of moves source ≡ None

-- what is out is a request that may take effect
may_act_from : (setup : Setup) (moves : List Move) (source : Source) (request : Request) → is_of_seen source ≡ false → asked setup (entries_of moves) source ≡ Some request
    → is_unsure (outcome_of (entries_of moves) source) ≡ true → MayAct setup moves source request
may_act_from setup moves (OfSeen i) request e a u = absurd (cc e)
may_act_from setup moves (OfAction a) request e b u = (b, u)
may_act_from setup moves (OfPoll n) request e b u = (b, u)

-- an exchange that is out: its source, which hasn't ended, and the request that it was asked with
record IsOut (setup : Setup) (past : List Entry) (w : ℕ) : Type 0 where
  source : Source
  is : source_of past w ≡ Some source
  later : is_of_seen source ≡ false
  unended : outcome_of past source ≡ None
  asks : asked setup past source ≡ Some (request_out setup past w)

-- steps up to the last exchange, that exchange, and the pauses behind it
record Split (xs : List Exchange) (x : Exchange) (old new : Option Engine) : Type 0 where
  before : List Step
  are : exchanges_in before ≡ xs
  mid : Option Engine
  led : TellsSteps before old mid
  after : Option Engine
  made : Tells mid x.request x.outcome after
  pauses : List Step
  none : exchanges_in pauses ≡ []
  rests : TellsSteps pauses after new

split : (steps : List Step) (xs : List Exchange) (x : Exchange) (old new : Option Engine) → exchanges_in steps ≡ xs ++ x ∷ [] → TellsSteps steps old new → Split xs x old new
split [] [] x old new are told = absurd (cc are)
split [] (y ∷ xs) x old new are told = absurd (cc are)
split (Paused milliseconds ∷ steps) xs x old new are told =
    let rest = split steps xs x told.0 new are told.2 in record {
      before = Paused milliseconds ∷ rest.before;
      are = rest.are;
      mid = rest.mid;
      led = (told.0, told.1, rest.led);
      after = rest.after;
      made = rest.made;
      pauses = rest.pauses;
      none = rest.none;
      rests = rest.rests;
    }
split (Made y ∷ steps) [] x old new are told =
    let same : y ≡ x = cc are in
    let none : exchanges_in steps ≡ [] = cc are in record {
      before = [];
      are = refl;
      mid = old;
      led = refl;
      after = told.0;
      made = subst (λ (e : Exchange). Tells old e.request e.outcome told.0) same told.1;
      pauses = steps;
      none = none;
      rests = told.2;
    }
split (Made y ∷ steps) (z ∷ xs) x old new are told =
    let same : y ≡ z = cc are in
    let more : exchanges_in steps ≡ xs ++ x ∷ [] = cc are in
    let rest = split steps xs x told.0 new more told.2 in record {
      before = Made y ∷ rest.before;
      are = ap (λ (e : Exchange). e ∷ exchanges_in rest.before) same ∙ ap (λ (l : List Exchange). z ∷ l) rest.are;
      mid = rest.mid;
      led = (told.0, told.1, rest.led);
      after = rest.after;
      made = rest.made;
      pauses = rest.pauses;
      none = rest.none;
      rests = rest.rests;
    }

module _ (aim : Aim) (setup : Setup) (plan : HasPlan (basis_of aim setup) setup.actions) (whole : IsWhole setup.declared) (one : setup.limits.workers ≡ 1)
    (waits : (is_up aim.purpose ≡ true) ⊎ (setup.limits.wait ≡ false)) where
  is_out : (past : List Entry) (w : ℕ) → IsLegal aim setup past → is_open (holding past w) ≡ true → IsOut setup past w
  is_out past w legal e = at (holding past w) refl e
    where
      by : (held : Holding) (source : Source) → holding past w ≡ held → source_for past w held ≡ Some source → is_of_seen source ≡ false → IsOut setup past w
      by held source h s later = let is : source_of past w ≡ Some source = source_is past w held h ∙ s in record {
        source = source;
        is = is;
        later = later;
        unended = not_ended aim setup one past w held source legal h s;
        asks = out_asked aim setup plan whole one waits past w source legal is;
      }

      at : (held : Holding) → holding past w ≡ held → is_open held ≡ true → IsOut setup past w
      at Nothing h o = absurd (cc o)
      at (Work a) h o = by (Work a) (OfAction a) h refl refl
      at (Watch s) h o = by (Watch s) (OfPoll (poll_place past w)) h refl refl

  module _ (first : Engine) where
    -- an entry that ends no exchange
    noted : (past : List Entry) (entry : Entry) (last : Engine) → ((moves : List Move) → Fits moves entry)
        → ((source : Source) → is_of_seen source ≡ false → outcome_of (entry ∷ past) source ≡ outcome_of past source) → Tidy setup past first last → Tidy setup (entry ∷ past) first last
    noted past entry last fits same t = record {
      moves = Did entry ∷ t.moves;
      is = record { journal = ap (λ (l : List Entry). entry ∷ l) t.is.journal; world = (last, t.is.world, (fits t.moves, refl)) };
      clean = λ source e none. t.clean source e (sym (same source e) ∙ none);
    }

    module _ (past : List Entry) (w : ℕ) (outcome : Outcome) (mid : Engine) (out : IsOut setup past w) (t : Tidy setup past first mid) where
      -- what is left open by the end was open before, and is another exchange
      was_open : (source : Source) → outcome_of (Entry.Ended w outcome ∷ past) source ≡ None → (is_source source out.source ≡ false) × (outcome_of past source ≡ None)
      was_open source e = at (is_source source out.source) refl (rw out.is at e)
        where
          at : (b : Bool) → is_source source out.source ≡ b → (if b then Some outcome else outcome_of past source) ≡ None → (is_source source out.source ≡ false) × (outcome_of past source ≡ None)
          at true h f = absurd (cc f)
          at false h f = (h, f)

      here : source_of (entries_of t.moves) w ≡ Some out.source
      here = ap (λ (l : List Entry). source_of l w) t.is.journal ∙ out.is

      no_effect : effect_of t.moves out.source ≡ None
      no_effect = t.clean out.source out.later out.unended

      -- it ended without an effect
      ended_without : FitsOutcome None outcome → Tidy setup (Entry.Ended w outcome ∷ past) first mid
      ended_without fits = record {
        moves = Did (Entry.Ended w outcome) ∷ t.moves;
        is = record {
          journal = ap (λ (l : List Entry). Entry.Ended w outcome ∷ l) t.is.journal;
          world = (mid, t.is.world, (subst (λ (o : Option Reply). FitsOutcome o outcome) (sym effect) fits, refl));
        };
        clean = λ source e none. t.clean source e (was_open source none).1;
      }
        where
          effect : option_and_then (effect_of t.moves) (source_of (entries_of t.moves) w) ≡ None
          effect = ap (option_and_then (effect_of t.moves)) here ∙ no_effect

      -- it took effect, and then ended
      ended_with : (reply : Reply) (last : Engine) → Answers mid (request_out setup past w) reply last → FitsOutcome (Some reply) outcome → Tidy setup (Entry.Ended w outcome ∷ past) first last
      ended_with reply last answers fits = record {
        moves = Did (Entry.Ended w outcome) ∷ took;
        is = record {
          journal = ap (λ (l : List Entry). Entry.Ended w outcome ∷ l) t.is.journal;
          world = (last, (mid, t.is.world, (left, answers)), (subst (λ (o : Option Reply). FitsOutcome o outcome) (sym effect) fits, refl));
        };
        clean = λ source e none. let o = was_open source none in
            no_effect_yet source out.source (request_out setup past w) reply t.moves (apart_back source out.source o.0) (t.clean source e o.1);
      }
        where
          took : List Move
          took = Took out.source (request_out setup past w) reply ∷ t.moves

          left : IsLeft setup t.moves out.source (request_out setup past w)
          left = record {
            may_act = may_act_from setup t.moves out.source (request_out setup past w) out.later (rw t.is.journal out.asks) (rw (t.is.journal, out.unended) refl);
            no_effect = no_effect;
          }

          effect : option_and_then (effect_of took) (source_of (entries_of took) w) ≡ Some reply
          effect = ap (option_and_then (effect_of took)) here ∙ rw (is_itself out.source) refl

    -- the end of an exchange
    ended : (past : List Entry) (w : ℕ) (outcome : Outcome) (mid : Engine) (new : Option Engine) → IsOut setup past w → Tidy setup past first mid
        → Tells (Some mid) (request_out setup past w) outcome new → IsSomeAnd new (λ last. Tidy setup (Entry.Ended w outcome ∷ past) first last)
    ended past w (Outcome.Answered reply) mid (Some last) out t answers = ended_with past w (Outcome.Answered reply) mid out t reply last answers refl
    ended past w (Outcome.Answered reply) mid None out t answers = absurd answers
    ended past w Outcome.NotSent mid new out t same =
        subst (λ (e : Option Engine). IsSomeAnd e (λ last. Tidy setup (Entry.Ended w Outcome.NotSent ∷ past) first last)) (sym same) (ended_without past w Outcome.NotSent mid out t refl)
    ended past w (Outcome.Lost cause) mid new out t (inl same) =
        subst (λ (e : Option Engine). IsSomeAnd e (λ last. Tidy setup (Entry.Ended w (Outcome.Lost cause) ∷ past) first last)) (sym same) (ended_without past w (Outcome.Lost cause) mid out t tt)
    ended past w (Outcome.Lost cause) mid (Some last) out t (inr answers) = ended_with past w (Outcome.Lost cause) mid out t answers.0 last answers.1 tt
    ended past w (Outcome.Lost cause) mid None out t (inr answers) = absurd answers
    ended past w Outcome.Memory mid new out t (inl same) =
        subst (λ (e : Option Engine). IsSomeAnd e (λ last. Tidy setup (Entry.Ended w Outcome.Memory ∷ past) first last)) (sym same) (ended_without past w Outcome.Memory mid out t tt)
    ended past w Outcome.Memory mid (Some last) out t (inr answers) = ended_with past w Outcome.Memory mid out t answers.0 last answers.1 tt
    ended past w Outcome.Memory mid None out t (inr answers) = absurd answers

    -- own changes
    drifted : (past : List Entry) (n : ℕ) (mid last : Engine) → Tidy setup past first mid → ChangesItselfTimes n mid last → Tidy setup past first last
    drifted past zero mid last t same = subst (λ (e : Engine). Tidy setup past first e) (sym same) t
    drifted past (suc n) mid last t drifts =
        let before = drifted past n mid drifts.0 t drifts.1 in record {
          moves = Changed ∷ before.moves;
          is = record { journal = before.is.journal; world = (drifts.0, before.is.world, drifts.2) };
          clean = before.clean;
        }

    -- pauses alone
    rested : (past : List Entry) (steps : List Step) (mid : Engine) (new : Option Engine) → exchanges_in steps ≡ [] → Tidy setup past first mid → TellsSteps steps (Some mid) new
        → IsSomeAnd new (λ last. Tidy setup past first last)
    rested past [] mid new none t told = subst (λ (e : Option Engine). IsSomeAnd e (λ last. Tidy setup past first last)) (sym told) t
    rested past (Made x ∷ steps) mid new none t told = absurd (cc none)
    rested past (Paused milliseconds ∷ steps) mid new none t told = at told.0 told.1 told.2 (λ engine drifts more. rested past steps engine new none (drifted past drifts.0 mid engine t drifts.1) more)
      where
        at : (e : Option Engine) → DriftsTold (Some mid) e → TellsSteps steps e new
            → ((engine : Engine) → Drifts mid engine → TellsSteps steps (Some engine) new → IsSomeAnd new (λ last. Tidy setup past first last))
            → IsSomeAnd new (λ last. Tidy setup past first last)
        at None d more rest = absurd d
        at (Some engine) d more rest = rest engine d more

    rested_if : (past : List Entry) (steps : List Step) (mid new : Option Engine) → exchanges_in steps ≡ [] → IsSomeAnd mid (λ last. Tidy setup past first last) → TellsSteps steps mid new
        → IsSomeAnd new (λ last. Tidy setup past first last)
    rested_if past steps None new none t told = absurd t
    rested_if past steps (Some mid) new none t told = rested past steps mid new none t told

    -- the observation
    seen : (observation : Observed) (steps : List Step) (new : Option Engine) → exchanges_in steps ≡ observation.exchanges → TellsSteps steps (Some first) new
        → IsSomeAnd new (λ last. Tidy setup (Entry.Seen observation ∷ []) first last)
    seen observation steps new are told = at new
        (subst (λ (l : List Exchange). IsSomeAnd new (λ last. Observing setup first (reverse l ++ []) last)) are (observed_all setup first steps [] first new (nothing_observed setup first) told))
      where
        at : (e : Option Engine) → IsSomeAnd e (λ last. Observing setup first (reverse observation.exchanges ++ []) last) → IsSomeAnd e (λ last. Tidy setup (Entry.Seen observation ∷ []) first last)
        at None n = n
        at (Some last) o = record {
          moves = Did (Entry.Seen observation) ∷ o.moves;
          is = record {
            journal = ap (λ (l : List Entry). Entry.Seen observation ∷ l) o.bare;
            world = (last, o.world, (subst (λ (l : List Exchange). FitsSeen l (seen_effects o.moves)) (append-nil (reverse observation.exchanges)) o.fits, refl));
          };
          clean = λ source e none. o.others source e;
        }

    mapped : (P Q : Engine → Type 0) (new : Option Engine) → ((last : Engine) → P last → Q last) → IsSomeAnd new P → IsSomeAnd new Q
    mapped P Q None f n = n
    mapped P Q (Some last) f p = f last p

    runs : (past : List Entry) (steps : List Step) (new : Option Engine) → IsLegal aim setup past → exchanges_in steps ≡ exchanges_of setup past 0 → TellsSteps steps (Some first) new
        → IsSomeAnd new (λ last. Tidy setup past first last)
    runs [] steps new legal are told = rested [] steps first new are (record { moves = []; is = record { journal = refl; world = refl }; clean = λ source e none. refl }) told
    runs (Entry.Seen observation ∷ past) steps new legal are told =
        subst (λ (l : List Entry). exchanges_in steps ≡ exchanges_of setup (Entry.Seen observation ∷ l) 0 → IsSomeAnd new (λ last. Tidy setup (Entry.Seen observation ∷ l) first last))
        (sym legal.1.0) (λ same. seen observation steps new same told) are
    runs (Entry.Ended w outcome ∷ past) steps new legal are told =
        rested_if (Entry.Ended w outcome ∷ past) here.pauses here.after new here.none (at here.mid (runs past here.before here.mid legal.0 here.are here.led) here.made) here.rests
      where
        none : w ≡ 0
        none = only_holder aim setup one past w legal.0 legal.1

        x : Exchange
        x = record { request = request_out setup past w; outcome = outcome }

        here : Split (exchanges_of setup past 0) x (Some first) new
        here = split steps (exchanges_of setup past 0) x (Some first) new (rw (eq-eqb w 0 none) at are) told

        at : (mid : Option Engine) → IsSomeAnd mid (λ last. Tidy setup past first last) → Tells mid (request_out setup past w) outcome here.after
            → IsSomeAnd here.after (λ last. Tidy setup (Entry.Ended w outcome ∷ past) first last)
        at None n t = absurd n
        at (Some mid) n t = ended past w outcome mid here.after (is_out past w legal.0 legal.1) n t
    runs (Entry.Claim w a ∷ past) steps new legal are told = mapped _ _ new (λ last. noted past (Entry.Claim w a) last (λ moves. tt) (λ source e. refl)) (runs past steps new legal.0 are told)
    runs (Entry.Poll w s ∷ past) steps new legal are told = mapped _ _ new (λ last. noted past (Entry.Poll w s) last (λ moves. tt) (λ source e. refl)) (runs past steps new legal.0 are told)
    runs (Entry.Idle w ∷ past) steps new legal are told = mapped _ _ new (λ last. noted past (Entry.Idle w) last (λ moves. tt) (λ source e. refl)) (runs past steps new legal.0 are told)
    runs (Entry.Leave w ∷ past) steps new legal are told = mapped _ _ new (λ last. noted past (Entry.Leave w) last (λ moves. tt) (λ source e. refl)) (runs past steps new legal.0 are told)
    runs (Entry.Stop w ∷ past) steps new legal are told = mapped _ _ new (λ last. noted past (Entry.Stop w) last (λ moves. tt) (λ source e. refl)) (runs past steps new legal.0 are told)
    runs (Entry.Late w why ∷ past) steps new legal are told = mapped _ _ new (λ last. noted past (Entry.Late w why) last (λ moves. tt) (λ source e. refl)) (runs past steps new legal.0 are told)
    runs (Entry.Short w ∷ past) steps new legal are told = mapped _ _ new (λ last. noted past (Entry.Short w) last (λ moves. tt) (λ source e. refl)) (runs past steps new legal.0 are told)

-- exchanges without a pause are those exchanges
pub unpaused_are : (es : List Exchange) → exchanges_in (unpaused es) ≡ es
unpaused_are [] = refl
unpaused_are (x ∷ es) = ap (λ (l : List Exchange). x ∷ l) (unpaused_are es)

-- a run that takes a project down waits for no goal
goals_up : (up wait : Bool) → (up ≡ true) ⊎ ((wait && up) ≡ false)
goals_up true wait = inl refl
goals_up false true = inr refl
goals_up false false = inr refl

pub told_runs_have_worlds : ToldRunsHaveWorlds
told_runs_have_worlds task journal steps first new one whole run are told =
    mapped aim setup plan whole one waits first _ _ new (λ last t. (t.moves, t.is)) (runs aim setup plan whole one waits first (reverse journal) steps new run.legal are told)
  where
    aim : Aim
    aim = task.aim

    setup : Setup
    setup = run_setup task journal

    plan : HasPlan (basis_of aim setup) setup.actions
    plan = has_plan (basis_of aim setup)

    waits : (is_up aim.purpose ≡ true) ⊎ (setup.limits.wait ≡ false)
    waits = goals_up (is_up aim.purpose) task.limits.wait
