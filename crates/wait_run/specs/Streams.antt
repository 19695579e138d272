-- What sending the request for events does, and opening the stream of them.
use Rattle.std.specs.Prelude.{◌≡◌, ◌⊎◌, ℕ, ◌==◌, Bool, false, List, [], Option, Result, Ok, Err, take}
use Rattle.http_request.specs.Events.{events_request}
use Rattle.http_response.specs.Bodies.{IsOpenWithin}
use Rattle.http_response.specs.Hearing.{Hears}
use Rattle.http_response.specs.Reading.{EndsByWithin}
use Rattle.http_response.specs.declared.OpenBody.{OpenBody}
use Rattle.outside_api.specs.Pipes.{Talk, ToldBy, after_write}
use Rattle.outside_files.specs.Counts.{Rose}
use Rattle.engine_types.specs.declared.StreamFault.{StreamFault}
use Rattle.engine_types.specs.declared.WireEnd.{WireEnd}
use Rattle.tree_base.specs.Limits.{most_stream_bytes}
use Rattle.wait_run.specs.declared.refusal.WaitRefusal.{WaitRefusal}

-- the request was written whole; or a part of it, and a fault was counted or memory wanted
abbrev pub SendsBy
    : List ℕ → Option Talk → Option Talk → ℕ → ℕ → Result Unit WaitRefusal → Type 0
SendsBy project old new faults_old faults_new (Ok done) =
    ToldBy (after_write (events_request project)) old new
SendsBy project old new faults_old faults_new (Err refusal) =
    (n : ℕ) × ToldBy (after_write (take n (events_request project))) old new
    × ((refusal ≡ WaitRefusal.Memory)
    ⊎ ((refusal ≡ WaitRefusal.Stream (StreamFault.Wire WireEnd.Fault)) × Rose faults_old faults_new))

-- so much of the body of an open stream was given by what was read of it
abbrev pub IsOpenStream : OpenBody → List ℕ → List ℕ → Bool → Type 0
IsOpenStream open_body body read ended = IsOpenWithin most_stream_bytes open_body read ended body

-- some bytes of a stream were read, by which it is open and so much of its body was given
abbrev pub ReadsTo : OpenBody → List ℕ → Option Talk → Option Talk → Type 0
ReadsTo open_body body old new =
    Hears old new (IsOpenStream open_body body) × (open_body.status ≡ 200)

-- what opening the stream may answer, where these bytes were read
abbrev pub OpensBy : ℕ → ℕ → Result OpenBody WaitRefusal → List ℕ → Bool → Type 0
OpensBy old new (Ok open_body) read ended =
    IsOpenStream open_body [] read ended × (open_body.status ≡ 200)
OpensBy old new (Err (WaitRefusal.Stream (StreamFault.Refused status))) read ended =
    (open_body : OpenBody) × IsOpenStream open_body [] read ended
    × (open_body.status ≡ status) × ((status == 200) ≡ false)
OpensBy old new (Err (WaitRefusal.Stream (StreamFault.Wire cause))) read ended =
    EndsByWithin most_stream_bytes read ended old new cause
OpensBy old new (Err WaitRefusal.Memory) read ended = Unit {0}
OpensBy old new (Err refusal) read ended = ⊥

-- some bytes were read, and the answer is theirs
abbrev pub OpensStreamBy
    : Option Talk → Option Talk → ℕ → ℕ → Result OpenBody WaitRefusal → Type 0
OpensStreamBy old new faults_old faults_new answer =
    Hears old new (OpensBy faults_old faults_new answer)
