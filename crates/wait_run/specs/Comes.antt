-- What a wait did with its hand and its stream, and what it came to.
use Rattle.std.specs.Prelude.{◌≡◌, ◌⊎◌, ℕ, ◌==◌, ◌||◌, Bool, true, false, List, [], ◌++◌, Option, Some, None, IfSome, length, take}
use Rattle.engine_types.specs.declared.Declared.{Declared}
use Rattle.engine_types.specs.declared.Engine.{Engine}
use Rattle.engine_types.specs.declared.Exchange.{Exchange}
use Rattle.engine_types.specs.declared.StreamFault.{StreamFault}
use Rattle.event_watch.specs.Events.{events}
use Rattle.event_watch.specs.declared.LineFault.{LineFault}
use Rattle.http_request.specs.Events.{events_request}
use Rattle.http_response.specs.Bodies.{IsOpenWithin}
use Rattle.http_response.specs.Reading.{EndsByWithin}
use Rattle.http_response.specs.declared.OpenBody.{OpenBody}
use Rattle.outside_api.specs.Accounts.{Account, AreCaused}
use Rattle.outside_api.specs.Pipes.{Talk}
use Rattle.outside_files.specs.Counts.{Rose}
use Rattle.response_rules.specs.Responses.{IsResponseWithin}
use Rattle.tree_base.specs.Limits.{most_stream_bytes}
use Rattle.run_model.specs.EngineRules.{ToldBy}
use Rattle.run_model.specs.Logs.{GrowsBy}
use Rattle.wait_run.specs.Asking.{IsWait}
use Rattle.wait_run.specs.Ends.{refusal_of}
use Rattle.wait_run.specs.Looks.{requests}
use Rattle.wait_run.specs.Reports.{has_ended, met_in, said_in}
use Rattle.wait_run.specs.declared.refusal.WaitRefusal.{WaitRefusal}
use Rattle.wait_run.specs.declared.waited.Waited.{Waited}

-- ---- the stream

-- what was read begins with the head of a response of status 200, and so much of its body was given
pub record IsStreamed (read body : List ℕ) : Type 0 where
  pub front : List ℕ
  pub rest : List ℕ
  pub ended : Bool
  pub open_body : OpenBody
  pub parts : read ≡ front ++ rest
  pub is_open : IsOpenWithin most_stream_bytes open_body front ended body
  pub good : open_body.status ≡ 200

-- what ended the stream is so by what was read of it, of whose body so much was given, and by its counts of faults
abbrev pub EndsSo : List ℕ → Bool → List ℕ → ℕ → ℕ → StreamFault → Type 0
EndsSo read ended body old new (StreamFault.Refused status) =
    (open_body : OpenBody) × IsOpenWithin most_stream_bytes open_body read ended []
    × (open_body.status ≡ status) × ((status == 200) ≡ false)
EndsSo read ended body old new (StreamFault.Wire cause) =
    EndsByWithin most_stream_bytes read ended old new cause
EndsSo read ended body old new (StreamFault.BadEvent at) =
    (events body).fault ≡ Some (LineFault.BadEvent at)
EndsSo read ended body old new (StreamFault.TooLong at) =
    (events body).fault ≡ Some (LineFault.TooLong at)
EndsSo read ended body old new StreamFault.Closed =
    IsResponseWithin most_stream_bytes read ended 200 body × ((events body).fault ≡ None)

-- what keeps a stream from being opened, by what was read of it: the status of its head, or that it has none
abbrev pub KeepsShut : List ℕ → Bool → ℕ → ℕ → StreamFault → Type 0
KeepsShut read ended old new (StreamFault.Refused status) =
    EndsSo read ended [] old new (StreamFault.Refused status)
KeepsShut read ended old new (StreamFault.Wire cause) =
    EndsSo read ended [] old new (StreamFault.Wire cause)
KeepsShut read ended old new fault = ⊥

-- what is told of the stream grew by these bytes, written and read, and by its end, where that was found
abbrev pub IsSaid : List ℕ → List ℕ → Bool → Option Talk → Option Talk → Type 0
IsSaid sent read ended None new = new ≡ None
IsSaid sent read ended (Some old) new =
    new ≡ Some (record {
      written = old.written ++ sent;
      read = old.read ++ read;
      ended = old.ended || ended;
    })

-- the request for the events was written whole; or a part of it, and then nothing is asked of the Engine, and a fault was counted or
-- memory wanted
abbrev pub IsAsked
    : List ℕ → List ℕ → List Exchange → ℕ → ℕ → Option WaitRefusal → Type 0
IsAsked wanted sent made old new refusal =
    (sent ≡ wanted)
    ⊎ ((n : ℕ) × (sent ≡ take n wanted) × (made ≡ [])
    × (Rose old new ⊎ (refusal ≡ Some WaitRefusal.Memory)))

-- ---- what it came to

-- a wait whose stream was opened: but for an end its whole list was made, what it found met is what its reports say, and its refusal
-- is the first of theirs and the stream's
pub record Comes (declared : Declared) (body : List ℕ) (made : List Exchange)
    (end : Option StreamFault) (waited : Waited) : Type 0 where
  pub waits : IsWait declared body made
  pub whole : has_ended declared body made ≡ false
      → length made ≡ length (requests declared body made)
  pub over : end ≡ None → has_ended declared body made ≡ true
  pub met : waited.met ≡ met_in declared (said_in declared body made)
  pub refusal : waited.refusal ≡ refusal_of declared body made end

-- a wait whose stream wasn't opened: it asked nothing of the Engine
pub record IsUnopened (made : List Exchange) (end : StreamFault) (waited : Waited) : Type 0 where
  pub unsent : made ≡ []
  pub unmet : waited.met ≡ []
  pub refusal : waited.refusal ≡ Some (WaitRefusal.Stream end)

-- a wait that wanted memory: what it did is the beginning of what it would have done, by so much of the body of what was read
pub record IsShort (declared : Declared) (read body : List ℕ) (made : List Exchange)
    (waited : Waited) : Type 0 where
  pub streamed : (body ≡ []) ⊎ IsStreamed read body
  pub refusal : waited.refusal ≡ Some WaitRefusal.Memory
  pub waits : IsWait declared body made
  pub met : (n : ℕ) × (waited.met ≡ take n (met_in declared (said_in declared body made)))

-- what a wait came to that was given so much of the body of what was read
abbrev pub EndsAs
    : Declared → List ℕ → Bool → List ℕ → List Exchange → ℕ → ℕ → Waited → Type 0
EndsAs declared read ended body made old new waited =
    IsShort declared read body made waited
    ⊎ (((end : StreamFault) × IsUnopened made end waited × KeepsShut read ended old new end)
    ⊎ ((end : Option StreamFault) × IsStreamed read body × Comes declared body made end waited
    × IfSome end (EndsSo read ended body old new)))

-- the theorem on a wait, by what its hand and its stream tell before and after
pub record Waits (declared : Declared) (old new : Account) (engine_old engine_new : Option Engine)
    (talk_old talk_new : Option Talk) (faults_old faults_new : ℕ) (waited : Waited)
    : Type 0 where
  -- the exchanges that were made; the bytes that were written and read; and what was given of the body
  pub made : List Exchange
  pub sent : List ℕ
  pub read : List ℕ
  pub ended : Bool
  pub body : List ℕ
  -- the stream
  pub said : IsSaid sent read ended talk_old talk_new
  pub asked : IsAsked (events_request declared.project) sent made
      faults_old faults_new waited.refusal
  -- the hand: each exchange has its cause in itself
  pub log : GrowsBy made old.log new.log
  pub caused : AreCaused made old new
  pub told : ToldBy made engine_old engine_new
  pub ends : EndsAs declared read ended body made faults_old faults_new waited
