-- What took effect in a world of a legal journal: each action at most once, and each that ended well with its good reply.
use Rattle.std.proofs.Common.{◌≡◌, ◌⊎◌, ℕ, Bool, true, false, List, [], ◌∷◌, Option, Some, None, refl, sym, ap, ◌∙◌, subst, inl, inr}
use Rattle.std.proofs.lemmas.Bool.{eqb-true, eq-eqb}
use Rattle.std.specs.Prelude.{if◌then◌else◌, ◌==◌}
use Rattle.engine_types.specs.declared.ActionKind.{ActionKind}
use Rattle.engine_types.specs.declared.Aim.{Aim}
use Rattle.engine_types.specs.declared.Engine.{Engine}
use Rattle.engine_types.specs.declared.Entry.{Entry}
use Rattle.engine_types.specs.declared.Outcome.{Outcome}
use Rattle.engine_types.specs.declared.Reply.{Reply}
use Rattle.engine_types.specs.declared.Request.{Request}
use Rattle.run_model.specs.Journals.{Badly, Free, Holding, Nothing, Out, Setup, Standing, Watch, Well, Work, ended_as, holding, is_good, is_well, standing}
use Rattle.run_model.specs.Legal.{IsLegal}
use Rattle.run_model.specs.Plans.{kind_of}
use Rattle.run_model.specs.Requests.{OfAction, OfPoll, OfSeen, Source, asked, made_id}
use Rattle.run_model.specs.Worlds.{Changed, Did, FitsOutcome, MayMove, Move, Took, World, effect_of, entries_of, is_source}
use Rattle.world_laws.proofs.Claimed.{IsTail, well_later}

-- how an action that ended well ended
pub record IsGood (setup : Setup) (a : ℕ) (reply : Reply) : Type 0 where
  pub kind : ActionKind
  pub kind_is : kind_of setup.actions a ≡ Some kind
  pub good : is_good kind reply ≡ true

well_end : (setup : Setup) (a : ℕ) (outcome : Outcome) (reply : Reply) → ended_as (kind_of setup.actions a) outcome ≡ Well reply
    → (outcome ≡ Outcome.Answered reply) × IsGood setup a reply
well_end setup a outcome reply e = at (kind_of setup.actions a) refl outcome e
  where
    on : (kind : ActionKind) (other : Reply) → kind_of setup.actions a ≡ Some kind → (t : Bool) → is_good kind other ≡ t
        → (if t then Well other else Badly) ≡ Well reply → (Outcome.Answered other ≡ Outcome.Answered reply) × IsGood setup a reply
    on kind other h true g f =
        let same : other ≡ reply = cc f in
        (ap (λ (r : Reply). Outcome.Answered r) same, record { kind = kind; kind_is = h; good = ap (is_good kind) (sym same) ∙ g })
    on kind other h false g f = absurd (cc f)

    at : (k : Option ActionKind) → kind_of setup.actions a ≡ k → (o : Outcome) → ended_as k o ≡ Well reply → (o ≡ Outcome.Answered reply) × IsGood setup a reply
    at (Some kind) h (Outcome.Answered other) f = on kind other h (is_good kind other) refl f
    at (Some kind) h (Outcome.Lost cause) f = absurd (cc f)
    at (Some kind) h Outcome.NotSent f = absurd (cc f)
    at (Some kind) h Outcome.Memory f = absurd (cc f)
    at None h o f = absurd (cc f)

-- an exchange of an action is another one only where it is the same
source_is : (a : ℕ) (other : Source) → is_source other (OfAction a) ≡ true → other ≡ OfAction a
source_is a (OfSeen i) e = absurd (cc e)
source_is a (OfAction b) e = ap OfAction (eqb-true b a e)
source_is a (OfPoll n) e = absurd (cc e)

-- the effect of an action stays its effect: there is no second one
pub effect_stays : (setup : Setup) (moves : List Move) (old : Engine) (move : Move) (new : Engine) (a : ℕ) (reply : Reply) → MayMove setup moves old move new
    → effect_of moves (OfAction a) ≡ Some reply → effect_of (move ∷ moves) (OfAction a) ≡ Some reply
effect_stays setup moves old (Did entry) new a reply may e = e
effect_stays setup moves old Changed new a reply may e = e
effect_stays setup moves old (Took source request other) new a reply may e = at (is_source source (OfAction a)) refl
  where
    at : (t : Bool) → is_source source (OfAction a) ≡ t → (if t then Some other else effect_of moves (OfAction a)) ≡ Some reply
    at true h =
        let none : effect_of moves (OfAction a) ≡ None = subst (λ (s : Source). effect_of moves s ≡ None) (source_is a source h) may.0.no_effect in
        let bad : None ≡ Some reply = sym none ∙ e in absurd (cc bad)
    at false h = e

-- an action that ended well has had its effect, with its good reply
pub record HasEffect (setup : Setup) (moves : List Move) (a : ℕ) (reply : Reply) : Type 0 where
  pub effect : effect_of moves (OfAction a) ≡ Some reply
  pub good : IsGood setup a reply

pub has_effect : (setup : Setup) (first last : Engine) (moves : List Move) (a : ℕ) (reply : Reply) → World setup first moves last
    → standing setup (entries_of moves) a ≡ Well reply → HasEffect setup moves a reply
has_effect setup first last [] a reply world e = absurd (cc e)
has_effect setup first last (Changed ∷ moves) a reply world e =
    let r = has_effect setup first world.0 moves a reply world.1 e in record { effect = r.effect; good = r.good }
has_effect setup first last (Took source request other ∷ moves) a reply world e =
    let r = has_effect setup first world.0 moves a reply world.1 e in
    record { effect = effect_stays setup moves world.0 (Took source request other) last a reply world.2 r.effect; good = r.good }
has_effect setup first last (Did (Entry.Claim w b) ∷ moves) a reply world e = at (b == a) (has_effect setup first world.0 moves a reply world.1) e
  where
    at : (t : Bool) → (standing setup (entries_of moves) a ≡ Well reply → HasEffect setup moves a reply)
        → (if t then Out else standing setup (entries_of moves) a) ≡ Well reply → HasEffect setup (Did (Entry.Claim w b) ∷ moves) a reply
    at true rest f = absurd (cc f)
    at false rest f = let r = rest f in record { effect = r.effect; good = r.good }
has_effect setup first last (Did (Entry.Ended w outcome) ∷ moves) a reply world e =
    at (holding (entries_of moves) w) refl (has_effect setup first world.0 moves a reply world.1)
  where
    same : (standing setup (entries_of moves) a ≡ Well reply → HasEffect setup moves a reply) → standing setup (entries_of moves) a ≡ Well reply
        → HasEffect setup (Did (Entry.Ended w outcome) ∷ moves) a reply
    same rest f = let r = rest f in record { effect = r.effect; good = r.good }

    on : (b : ℕ) → holding (entries_of moves) w ≡ Work b → (standing setup (entries_of moves) a ≡ Well reply → HasEffect setup moves a reply) → (t : Bool) → (b == a) ≡ t
        → (if t then ended_as (kind_of setup.actions a) outcome else standing setup (entries_of moves) a) ≡ Well reply
        → HasEffect setup (Did (Entry.Ended w outcome) ∷ moves) a reply
    on b h rest true k f =
        let end = well_end setup a outcome reply f in
        let fits : FitsOutcome (effect_of moves (OfAction b)) outcome = rw h at world.2.0 in
        let fitting : effect_of moves (OfAction b) ≡ Some reply = rw end.0 at fits in
        record { effect = ap (λ (c : ℕ). effect_of moves (OfAction c)) (sym (eqb-true b a k)) ∙ fitting; good = end.1 }
    on b h rest false k f = same rest f

    at : (held : Holding) → holding (entries_of moves) w ≡ held → (standing setup (entries_of moves) a ≡ Well reply → HasEffect setup moves a reply)
        → HasEffect setup (Did (Entry.Ended w outcome) ∷ moves) a reply
    at Nothing h rest = same rest (rw h at e)
    at (Watch s) h rest = same rest (rw h at e)
    at (Work b) h rest = on b h rest (b == a) refl (rw h at e)
has_effect setup first last (Did (Entry.Seen observation) ∷ moves) a reply world e =
    let r = has_effect setup first world.0 moves a reply world.1 e in record { effect = r.effect; good = r.good }
has_effect setup first last (Did (Entry.Poll w s) ∷ moves) a reply world e =
    let r = has_effect setup first world.0 moves a reply world.1 e in record { effect = r.effect; good = r.good }
has_effect setup first last (Did (Entry.Idle w) ∷ moves) a reply world e =
    let r = has_effect setup first world.0 moves a reply world.1 e in record { effect = r.effect; good = r.good }
has_effect setup first last (Did (Entry.Leave w) ∷ moves) a reply world e =
    let r = has_effect setup first world.0 moves a reply world.1 e in record { effect = r.effect; good = r.good }
has_effect setup first last (Did (Entry.Stop w) ∷ moves) a reply world e =
    let r = has_effect setup first world.0 moves a reply world.1 e in record { effect = r.effect; good = r.good }
has_effect setup first last (Did (Entry.Late w why) ∷ moves) a reply world e =
    let r = has_effect setup first world.0 moves a reply world.1 e in record { effect = r.effect; good = r.good }
has_effect setup first last (Did (Entry.Short w) ∷ moves) a reply world e =
    let r = has_effect setup first world.0 moves a reply world.1 e in record { effect = r.effect; good = r.good }

-- with one more effect of an action: that one is its own, and the other actions' are as they were
pub effect_here : (moves : List Move) (a : ℕ) (request : Request) (reply : Reply) → effect_of (Took (OfAction a) request reply ∷ moves) (OfAction a) ≡ Some reply
effect_here moves a request reply = rw (eq-eqb a a refl) refl

pub effect_kept : (moves : List Move) (a b : ℕ) (request : Request) (reply other : Reply) → effect_of moves (OfAction a) ≡ None → effect_of moves (OfAction b) ≡ Some other
    → effect_of (Took (OfAction a) request reply ∷ moves) (OfAction b) ≡ Some other
effect_kept moves a b request reply other none e = at (a == b) refl
  where
    at : (t : Bool) → (a == b) ≡ t → (if t then Some reply else effect_of moves (OfAction b)) ≡ Some other
    at true h =
        let here : effect_of moves (OfAction b) ≡ None = subst (λ (c : ℕ). effect_of moves (OfAction c) ≡ None) (eqb-true a b h) none in
        let bad : None ≡ Some other = sym here ∙ e in absurd (cc bad)
    at false h = e

pub effect_new : (moves : List Move) (a b : ℕ) (request : Request) (reply other : Reply) → effect_of (Took (OfAction a) request reply ∷ moves) (OfAction b) ≡ Some other
    → ((a ≡ b) × (reply ≡ other)) ⊎ (effect_of moves (OfAction b) ≡ Some other)
effect_new moves a b request reply other e = at (a == b) refl e
  where
    at : (t : Bool) → (a == b) ≡ t → (if t then Some reply else effect_of moves (OfAction b)) ≡ Some other → ((a ≡ b) × (reply ≡ other)) ⊎ (effect_of moves (OfAction b) ≡ Some other)
    at true h f = let same : reply ≡ other = cc f in inl (eqb-true a b h, same)
    at false h f = inr f

-- the id that a create or a make was told, at some tail of the journal, is that of its effect
pub made_effect : (aim : Aim) (setup : Setup) (first last : Engine) (moves : List Move) → IsLegal aim setup (entries_of moves) → World setup first moves last
    → (tail : List Entry) → IsTail tail (entries_of moves) → (a : ℕ) (id : List ℕ) → made_id (standing setup tail a) ≡ Some id
    → effect_of moves (OfAction a) ≡ Some (Reply.Made id)
made_effect aim setup first last moves legal world tail t a id e = at (standing setup tail a) refl e
  where
    told : (reply : Reply) → standing setup tail a ≡ Well reply → made_id (Well reply) ≡ Some id → effect_of moves (OfAction a) ≡ Some (Reply.Made id)
    told (Reply.Made other) h f =
        let same : other ≡ id = cc f in
        (has_effect setup first last moves a (Reply.Made other) world (well_later aim setup tail (entries_of moves) a (Reply.Made other) legal t h)).effect
        ∙ ap (λ (i : List ℕ). Some (Reply.Made i)) same
    told _ h f = absurd (cc f)

    at : (s : Standing) → standing setup tail a ≡ s → made_id s ≡ Some id → effect_of moves (OfAction a) ≡ Some (Reply.Made id)
    at (Well reply) h f = told reply h f
    at Free h f = absurd (cc f)
    at Out h f = absurd (cc f)
    at Badly h f = absurd (cc f)

-- before the observation is in the journal no action has had an effect
pub none_before : (setup : Setup) (first last : Engine) (moves : List Move) (a : ℕ) → World setup first moves last → entries_of moves ≡ [] → effect_of moves (OfAction a) ≡ None
none_before setup first last [] a world e = refl
none_before setup first last (Did entry ∷ moves) a world e = absurd (cc e)
none_before setup first last (Changed ∷ moves) a world e = none_before setup first world.0 moves a world.1 e
none_before setup first last (Took (OfSeen i) request reply ∷ moves) a world e = none_before setup first world.0 moves a world.1 e
none_before setup first last (Took (OfPoll n) request reply ∷ moves) a world e = none_before setup first world.0 moves a world.1 e
none_before setup first last (Took (OfAction b) request reply ∷ moves) a world e =
    let asks : asked setup [] (OfAction b) ≡ Some request = rw e at world.2.0.may_act.0 in absurd (cc asks)

-- each action of a run in which all ended well has had its effect, with a good reply
pub each_has_effect : (setup : Setup) (first last : Engine) (moves : List Move) (a : ℕ) → World setup first moves last
    → is_well (standing setup (entries_of moves) a) ≡ true → (reply : Reply) × HasEffect setup moves a reply
each_has_effect setup first last moves a world e = at (standing setup (entries_of moves) a) refl e
  where
    at : (s : Standing) → standing setup (entries_of moves) a ≡ s → is_well s ≡ true → (reply : Reply) × HasEffect setup moves a reply
    at (Well reply) h f = (reply, has_effect setup first last moves a reply world h)
    at Free h f = absurd (cc f)
    at Out h f = absurd (cc f)
    at Badly h f = absurd (cc f)
