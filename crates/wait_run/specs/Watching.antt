-- What reading the events of a stream does, and looking behind them.
use Rattle.std.specs.Prelude.{◌≡◌, ◌⊎◌, ℕ, ◌≤◌, Bool, true, false, List, ◌++◌, Option, Some, None, Result, Ok, Err, length}
use Rattle.engine_types.specs.declared.Declared.{Declared}
use Rattle.engine_types.specs.declared.Exchange.{Exchange}
use Rattle.engine_types.specs.declared.Listed.{Listed}
use Rattle.engine_types.specs.declared.StreamFault.{StreamFault}
use Rattle.event_watch.specs.Events.{events}
use Rattle.event_watch.specs.Reading.{HasRead}
use Rattle.event_watch.specs.declared.Event.{Event}
use Rattle.event_watch.specs.declared.EventReader.{EventReader}
use Rattle.event_watch.specs.declared.EventRefusal.{EventRefusal}
use Rattle.http_response.specs.Hearing.{Hears}
use Rattle.http_response.specs.declared.OpenBody.{OpenBody}
use Rattle.outside_api.specs.Pipes.{Talk}
use Rattle.outside_api.specs.Standings.{Makes, Standing}
use Rattle.wait_run.specs.Comes.{EndsAs, EndsSo, IsStreamed}
use Rattle.wait_run.specs.Goals.{is_settled_now}
use Rattle.wait_run.specs.Looks.{looks}
use Rattle.wait_run.specs.Streams.{ReadsTo}
use Rattle.wait_run.specs.Ways.{EndsBy, Way, looks_of}
use Rattle.wait_run.specs.declared.goals.Goals.{Goals}
use Rattle.wait_run.specs.declared.refusal.WaitRefusal.{WaitRefusal}
use Rattle.wait_run.specs.declared.waited.Waited.{Waited}

-- what the end of a stream comes to
abbrev pub over : Bool → StreamFault → Result Unit WaitRefusal
over true fault = Ok tt
over false fault = Err (WaitRefusal.Stream fault)

-- what a reader's answer means for the stream
abbrev pub fed_as : Result Unit EventRefusal → Result (Option StreamFault) WaitRefusal
fed_as (Ok done) = Ok None
fed_as (Err (EventRefusal.BadEvent at)) = Ok (Some (StreamFault.BadEvent at))
fed_as (Err (EventRefusal.TooLong at)) = Ok (Some (StreamFault.TooLong at))
fed_as (Err EventRefusal.Memory) = Err WaitRefusal.Memory

-- by what was read so much of the body was given, and the stream ended so
abbrev pub EndsStream : List ℕ → ℕ → ℕ → StreamFault → List ℕ → Bool → Type 0
EndsStream body old new fault read ended = IsStreamed read body × EndsSo read ended body old new fault

-- so much of the body was given by what was read
abbrev pub StreamsTo : List ℕ → List ℕ → Bool → Type 0
StreamsTo body read ended = IsStreamed read body

-- the body is open still, with a piece more of it given, at least a byte, which the reader has read; or the stream came to an end; of
-- want of memory nothing is said but that so much was given
abbrev pub Feeds
    : OpenBody → EventReader → List ℕ → List Event → Option Talk → Option Talk → ℕ → ℕ
    → Result (Option StreamFault) WaitRefusal → Type 0
Feeds open_body reader body taken talk_old talk_new old new (Ok None) =
    (piece : List ℕ) × (1 ≤ length piece) × ReadsTo open_body (body ++ piece) talk_old talk_new
    × HasRead reader (body ++ piece) taken × ((events (body ++ piece)).fault ≡ None)
Feeds open_body reader body taken talk_old talk_new old new (Ok (Some fault)) =
    (piece : List ℕ) × Hears talk_old talk_new (EndsStream (body ++ piece) old new fault)
    × HasRead reader (body ++ piece) taken
Feeds open_body reader body taken talk_old talk_new old new (Err refusal) =
    (refusal ≡ WaitRefusal.Memory)
    × ((piece : List ℕ) × Hears talk_old talk_new (StreamsTo (body ++ piece)))

-- the events that were taken of a body are the first, and the looks that were made are those that they ask for
pub record LooksAfter (declared : Declared) (rows : List Listed) (body : List ℕ)
    (taken : List Event) (from now : Standing) (reader : EventReader) (goals : Goals)
    : Type 0 where
  pub n : ℕ
  pub way : Way declared rows body n from now goals
  pub has_read : HasRead reader body taken
  pub many : n ≡ length (looks declared rows taken)

-- behind the last of these events its container was looked at, where it is a slot's; or that look ended the wait
abbrev pub LooksBehind
    : Declared → List Listed → List ℕ → List Event → Standing → Standing → EventReader → Goals
    → Result Unit WaitRefusal → Type 0
LooksBehind declared rows body taken from now reader goals (Ok done) =
    LooksAfter declared rows body taken from now reader goals
LooksBehind declared rows body taken from now reader goals (Err refusal) =
    EndsBy declared body from now refusal goals

-- behind events that wait looks were made: all that the body asks for, unless goals are settled; or one of them ended the wait
abbrev pub LooksOn
    : Declared → List Listed → List ℕ → Standing → Standing → EventReader → Goals
    → Result Unit WaitRefusal → Type 0
LooksOn declared rows body from now reader goals (Ok done) =
    (taken : List Event) × LooksAfter declared rows body taken from now reader goals
    × ((is_settled_now goals ≡ true) ⊎ ((events body).told ≡ taken))
LooksOn declared rows body from now reader goals (Err refusal) =
    EndsBy declared body from now refusal goals

-- a watch over a stream of whose body so much was given, by what was read of it: it ended with settled goals, by an exchange, or by the
-- stream's end, behind all looks that the body asks for
abbrev pub WatchesTo
    : Declared → List Listed → List ℕ → Standing → Standing → Goals → ℕ → ℕ
    → Result Unit WaitRefusal → List ℕ → Bool → Type 0
WatchesTo declared rows body from now goals old new (Ok done) read ended =
    IsStreamed read body
    × ((n : ℕ) × Way declared rows body n from now goals × (length declared.slots ≤ n)
    × (is_settled_now goals ≡ true))
WatchesTo declared rows body from now goals old new (Err refusal) read ended =
    IsStreamed read body
    × (EndsBy declared body from now refusal goals
    ⊎ ((fault : StreamFault) × (refusal ≡ WaitRefusal.Stream fault)
    × EndsSo read ended body old new fault
    × Way declared rows body (length (looks_of declared rows body)) from now goals
    × (is_settled_now goals ≡ false)))

-- a watch, by what is told of the stream
pub record Watches (declared : Declared) (rows : List Listed) (from now : Standing)
    (talk_old talk_new : Option Talk) (old new : ℕ) (goals : Goals)
    (result : Result Unit WaitRefusal) : Type 0 where
  pub body : List ℕ
  pub comes : Hears talk_old talk_new (WatchesTo declared rows body from now goals old new result)

-- a wait came to its end by what was read of the stream
abbrev pub EndsFrom
    : Declared → Standing → Standing → ℕ → ℕ → Waited → List ℕ → Bool → Type 0
EndsFrom declared from now faults_old faults_new waited read ended =
    (made : List Exchange) × Makes made from now
    × ((body : List ℕ) × EndsAs declared read ended body made faults_old faults_new waited)
