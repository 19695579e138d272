-- One turn of a worker: it heeds its limits, asks, and does what it is answered.
use Rattle.std.specs.Prelude.{◌≡◌, ℕ, ◌<◌, ◌^◌, Bool, true, false, if◌then◌else◌, nat_le, List, [], ◌∷◌, ◌++◌, Option, Some, None, length}
use Rattle.tree_base.specs.Limits.{before_poll, while_idle}
use Rattle.engine_types.specs.declared.Entry.{Entry}
use Rattle.engine_types.specs.declared.LateWhy.{LateWhy}
use Rattle.engine_types.specs.declared.Outcome.{Outcome}
use Rattle.engine_types.specs.declared.Request.{Request}
use Rattle.outside_api.specs.Clock.{Clock, after_asked, read_at}
use Rattle.run_model.specs.Legal.{Look, Pause, Take}
use Rattle.run_model.specs.Requests.{action_request, poll_request}
use Rattle.journal_laws.specs.Courses.{Course, entries, grown, setup_of}
use Rattle.journal_laws.specs.Laws.{decided}
use Rattle.ledger_core.specs.Answers.{IsLastEntry}
use Rattle.ledger_run.specs.Tellings.{Exchanges, Pauses, Telling}

-- a clock that may be read, paused and asked once more
pub record MayUse (clock : Clock) : Type 0 where
  pub looks : clock.looks < 2 ^ 62
  pub readings : clock.readings < 2 ^ 62
  pub paused : clock.paused < 2 ^ 62

-- the same run with more entries
abbrev pub with_more : Course → List Entry → Course
with_more run more = record run { journal = run.journal ++ more }

-- the entries of a worker that is asked to stop or not, and that then reads its clock where there is a deadline
abbrev pub heeded : Bool → Option ℕ → ℕ → List Entry
heeded true deadline reading = Entry.Stop 0 ∷ []
heeded false None reading = []
heeded false (Some deadline) reading =
    if nat_le deadline reading then Entry.Late 0 (LateWhy.Deadline reading) ∷ [] else []

-- the clock of its hand after that, which has made so many exchanges
abbrev pub clock_heeded : ℕ → Bool → Option ℕ → ℕ → Clock → Clock
clock_heeded made true deadline reading clock = after_asked clock true
clock_heeded made false None reading clock = after_asked clock false
clock_heeded made false (Some deadline) reading clock =
    read_at made (after_asked clock false) reading

-- a worker looked whether to stop, and else whether it is late, and told the ledger
pub record Heeds (deadline : Option ℕ) (old : Course) (before : Telling) (new : Course)
    (after : Telling) : Type 0 where
  pub asked : Bool
  pub reading : ℕ
  pub entered : new ≡ with_more old (heeded asked deadline reading)
  pub hand : after ≡ record before {
    clock = clock_heeded (length before.log) asked deadline reading before.clock;
  }

-- what a worker does that has asked: it leaves, makes an action or a poll by a request with this outcome, or pauses
pub data Deed : Type 0 where
  Leaves : Entry → Deed
  Works : ℕ → Request → Outcome → Deed
  Watches : ℕ → Request → Outcome → Deed
  Idles : Deed

-- whether the worker goes on after it
abbrev pub goes_on : Deed → Bool
goes_on (Leaves last) = false
goes_on deed = true

-- the deed is what the ledger decides on, it is entered, and the hand does it: before the exchange of a poll it pauses 500 ms,
-- and 250 ms where there is nothing to do yet
abbrev pub Does : Deed → Course → Telling → Course → Telling → Type 0
Does (Leaves last) old before new after =
    IsLastEntry (setup_of old) (entries old) 0 last × (new ≡ grown old last) × (after ≡ before)
Does (Works a request outcome) old before new after =
    (decided old 0 ≡ Take a)
    × (action_request (setup_of old) (entries old) a ≡ Some request)
    × (new ≡ grown (grown old (Entry.Claim 0 a)) (Entry.Ended 0 outcome))
    × Exchanges request outcome before after
Does (Watches s request outcome) old before new after =
    (decided old 0 ≡ Look s)
    × (poll_request (setup_of old) (entries old) s ≡ Some request)
    × (new ≡ grown (grown old (Entry.Poll 0 s)) (Entry.Ended 0 outcome))
    × (mid : Telling) × Pauses before_poll before mid × Exchanges request outcome mid after
Does Idles old before new after =
    (decided old 0 ≡ Pause) × (new ≡ grown old (Entry.Idle 0)) × Pauses while_idle before after

-- a worker asked and did what it was answered, and goes on or not
pub record Acts (old : Course) (before : Telling) (new : Course) (after : Telling)
    (goes : Bool) : Type 0 where
  pub deed : Deed
  pub does : Does deed old before new after
  pub going : goes ≡ goes_on deed

-- a permit was ended with what came of its request
pub record Ends (request : Request) (w : ℕ) (old : Course) (before : Telling) (new : Course)
    (after : Telling) : Type 0 where
  pub outcome : Outcome
  pub entered : new ≡ grown old (Entry.Ended w outcome)
  pub exchanges : Exchanges request outcome before after

-- a permit to poll was ended so, after a pause of 500 ms
pub record Polls (request : Request) (w : ℕ) (old : Course) (before : Telling) (new : Course)
    (after : Telling) : Type 0 where
  pub mid : Telling
  pub pauses : Pauses before_poll before mid
  pub ends : Ends request w old mid new after

-- one turn: the worker heeds its limits, asks, and does what it is answered
pub record Turns (deadline : Option ℕ) (old : Course) (before : Telling) (new : Course)
    (after : Telling) (goes : Bool) : Type 0 where
  pub mid : Course
  pub between : Telling
  pub heeds : Heeds deadline old before mid between
  pub acts : Acts mid between new after goes
