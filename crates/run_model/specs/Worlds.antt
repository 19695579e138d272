-- Worlds of a journal: what an Engine may have done while the journal was written, newest move first.
use Rattle.std.specs.Prelude.{◌≡◌, ◌⊎◌, Bool, true, false, if◌then◌else◌, ◌==◌, List, [], ◌∷◌, Option, Some, None, length, reverse, slice_get, option_map, option_and_then}
use Rattle.std.specs.Option.{option_map_or}
use Rattle.engine_types.specs.declared.Engine.{Engine}
use Rattle.engine_types.specs.declared.Entry.{Entry}
use Rattle.engine_types.specs.declared.Exchange.{Exchange}
use Rattle.engine_types.specs.declared.Outcome.{Outcome}
use Rattle.engine_types.specs.declared.Reply.{Reply}
use Rattle.engine_types.specs.declared.Request.{Request}
use Rattle.run_model.specs.EngineRules.{Answers, ChangesItself}
use Rattle.run_model.specs.Journals.{Setup}
use Rattle.run_model.specs.Requests.{OfAction, OfPoll, OfSeen, Source, asked, source_of}

-- a move: an entry of the journal, the effect of an exchange with the Engine's reply, or a change of the Engine's own
pub data Move : Type 0 where
  Did : Entry → Move
  Took : Source → Request → Reply → Move
  Changed : Move

-- the journal of the moves
abbrev pub entries_of : List Move → List Entry
entries_of [] = []
entries_of (Did entry ∷ moves) = entry ∷ entries_of moves
entries_of (Took source request reply ∷ moves) = entries_of moves
entries_of (Changed ∷ moves) = entries_of moves

-- whether two exchanges are the same one
abbrev pub is_source : Source → Source → Bool
is_source (OfSeen i) (OfSeen j) = i == j
is_source (OfAction a) (OfAction b) = a == b
is_source (OfPoll m) (OfPoll n) = m == n
is_source _ _ = false

-- the reply of an exchange's effect, if it has had one
abbrev pub effect_of : List Move → Source → Option Reply
effect_of [] source = None
effect_of (Did entry ∷ moves) source = effect_of moves source
effect_of (Took other request reply ∷ moves) source =
    if is_source other source then Some reply else effect_of moves source
effect_of (Changed ∷ moves) source = effect_of moves source

-- an effect: the request and its reply
pub record Effect : Type 0 where
  pub request : Request
  pub reply : Reply

-- the effects of the observation, newest first
abbrev pub seen_effects : List Move → List Effect
seen_effects [] = []
seen_effects (Took (OfSeen i) request reply ∷ moves) =
    record { request = request; reply = reply } ∷ seen_effects moves
seen_effects (_ ∷ moves) = seen_effects moves

-- the outcome of an exchange, if it has ended
abbrev pub outcome_of : List Entry → Source → Option Outcome
outcome_of [] source = None
outcome_of (Entry.Seen observation ∷ past) (OfSeen i) =
    option_map (λ exchange. exchange.outcome) (slice_get observation.exchanges i)
outcome_of (Entry.Ended w outcome ∷ past) source =
    if option_map_or (is_source source) (source_of past w) false then Some outcome
    else outcome_of past source
outcome_of (_ ∷ past) source = outcome_of past source

-- whether an exchange may still take effect: it is out, or what came of it isn't known
abbrev pub is_unsure : Option Outcome → Bool
is_unsure None = true
is_unsure (Some (Outcome.Answered reply)) = false
is_unsure (Some (Outcome.Lost cause)) = true
is_unsure (Some Outcome.NotSent) = false
is_unsure (Some Outcome.Memory) = true

-- an exchange whose request may be under way: it was made and isn't known to be over; until the observation is in the
-- journal its exchanges take effect one after another, and the entry tells their requests
abbrev pub MayAct : Setup → List Move → Source → Request → Type 0
MayAct setup moves (OfSeen i) request = Observing (entries_of moves)
  where
    Observing : List Entry → Type 0
    Observing [] = i ≡ length (seen_effects moves)
    Observing past =
        (asked setup past (OfSeen i) ≡ Some request)
        × (is_unsure (outcome_of past (OfSeen i)) ≡ true)
MayAct setup moves source request =
    (asked setup (entries_of moves) source ≡ Some request)
    × (is_unsure (outcome_of (entries_of moves) source) ≡ true)

-- a request that is left: it may be under way, and has had no effect
pub record IsLeft (setup : Setup) (moves : List Move) (source : Source)
    (request : Request) : Type 0 where
  pub may_act : MayAct setup moves source request
  pub no_effect : effect_of moves source ≡ None

-- the end of an exchange fits its effect: an answer is the effect's, what wasn't sent had none
abbrev pub FitsOutcome : Option Reply → Outcome → Type 0
FitsOutcome effect (Outcome.Answered reply) = effect ≡ Some reply
FitsOutcome effect Outcome.NotSent = effect ≡ None
FitsOutcome effect _ = Unit {0}

-- the last of these effects is that of an exchange, and the others are such: an answered exchange had its reply's effect, one
-- that wasn't sent had none, and another one had one or none
abbrev pub FitsLast : Outcome → Request → (List Effect → Type 0) → List Effect → Type 0
FitsLast (Outcome.Answered reply) request Rest [] = ⊥
FitsLast (Outcome.Answered reply) request Rest (effect ∷ effects) =
    (effect.request ≡ request) × (effect.reply ≡ reply) × Rest effects
FitsLast Outcome.NotSent request Rest effects = Rest effects
FitsLast _ request Rest [] = Rest []
FitsLast _ request Rest (effect ∷ effects) =
    Rest (effect ∷ effects) ⊎ ((effect.request ≡ request) × Rest effects)

-- these are the effects of these exchanges, both newest first
abbrev pub FitsSeen : List Exchange → List Effect → Type 0
FitsSeen [] effects = effects ≡ []
FitsSeen (exchange ∷ exchanges) effects =
    FitsLast exchange.outcome exchange.request (FitsSeen exchanges) effects

-- an entry fits the moves before it: an observation the effects that it had so far, and an end the effect of its exchange
abbrev pub Fits : List Move → Entry → Type 0
Fits moves (Entry.Seen observation) = FitsSeen (reverse observation.exchanges) (seen_effects moves)
Fits moves (Entry.Ended w outcome) =
    FitsOutcome (option_and_then (effect_of moves) (source_of (entries_of moves) w)) outcome
Fits moves _ = Unit {0}

-- a move may come after these, and leads from one Engine to the other
abbrev pub MayMove : Setup → List Move → Engine → Move → Engine → Type 0
MayMove setup moves old (Did entry) new = Fits moves entry × (new ≡ old)
MayMove setup moves old (Took source request reply) new =
    IsLeft setup moves source request × Answers old request reply new
MayMove setup moves old Changed new = ChangesItself old new

-- a world: the moves lead from the first Engine to the last
abbrev pub World : Setup → Engine → List Move → Engine → Type 0
World setup first [] last = last ≡ first
World setup first (move ∷ moves) last =
    (mid : Engine) × World setup first moves mid × MayMove setup moves mid move last

-- a world of this journal, newest entry first
pub record IsWorldOf (setup : Setup) (past : List Entry) (first : Engine) (moves : List Move)
    (last : Engine) : Type 0 where
  pub journal : entries_of moves ≡ past
  pub world : World setup first moves last
