-- What a hand answers that is told its outcomes.
use Rattle.std.specs.Prelude.{ℕ, Bool, true, false, List, Option, Some, None, if◌then◌else◌, slice_get}
use Rattle.engine_types.specs.declared.Outcome.{Outcome}
use Rattle.engine_types.specs.declared.Reply.{Reply}
use Rattle.engine_types.specs.declared.Request.{Request}
use Rattle.engine_types.specs.declared.WireEnd.{WireEnd}
use Rattle.engine_types.specs.declared.Exchange.{Exchange}
use Rattle.outside_files.specs.Counts.{one_more}
use Rattle.outside_api.specs.Clock.{Clock}
use Rattle.outside_api.specs.ClockCounts.{counts_of}
use Rattle.engine_hand.specs.declared.script_hand.ScriptHand.{ScriptHand}

-- whether an id that was made answers a request
abbrev pub is_made_by : Request → Bool
is_made_by (Request.Create name spec) = true
is_made_by (Request.MakeNetwork spec) = true
is_made_by request = false

-- whether Done answers a request
abbrev pub is_done_by : Request → Bool
is_done_by (Request.Start id) = true
is_done_by (Request.Stop id seconds) = true
is_done_by (Request.Remove id) = true
is_done_by (Request.Connect network container aliases) = true
is_done_by (Request.RemoveNetwork id) = true
is_done_by (Request.MakeVolume spec) = true
is_done_by (Request.RemoveVolume name) = true
is_done_by request = false

-- whether a reply is one of its request's, as `IsOfRow` has it
abbrev pub is_of_row : Request → Reply → Bool
is_of_row request (Reply.Refused status message) = true
is_of_row (Request.ListContainers project) (Reply.Containers rows) = true
is_of_row (Request.Inspect id) (Reply.State report) = true
is_of_row (Request.Logs id) (Reply.Bytes bytes) = true
is_of_row request (Reply.Made id) = is_made_by request
is_of_row request Reply.Done = is_done_by request
is_of_row (Request.Start id) Reply.Already = true
is_of_row (Request.Stop id seconds) Reply.Already = true
is_of_row Request.ListNetworks (Reply.Networks rows) = true
is_of_row Request.ListVolumes (Reply.Volumes names) = true
is_of_row (Request.Image name) (Reply.ImageId id) = true
is_of_row (Request.Pull name) Reply.Pulled = true
is_of_row (Request.Pull name) (Reply.PullFailed message) = true
is_of_row request reply = false

-- an outcome as it fits a request: a reply that isn't one of the request's is no body of its form
abbrev pub fitted : Request → Outcome → Outcome
fitted request (Outcome.Answered reply) =
    if is_of_row request reply then Outcome.Answered reply else Outcome.Lost WireEnd.BadBody
fitted request outcome = outcome

-- the outcome of the exchange behind so many: the script's, and none is sent behind its last one
abbrev pub scripted_by : Request → Option Outcome → Outcome
scripted_by request None = Outcome.NotSent
scripted_by request (Some outcome) = fitted request outcome

-- the same, by the script and how many exchanges were made
abbrev pub scripted : List Outcome → ℕ → Request → Outcome
scripted script made request = scripted_by request (slice_get script made)

-- the count of faults after an outcome: one more where it tells of one
abbrev pub faults_with : Outcome → ℕ → ℕ
faults_with (Outcome.Lost cause) faults = one_more faults
faults_with Outcome.NotSent faults = one_more faults
faults_with outcome faults = faults

-- the outcomes that it was told
abbrev pub script_of : ScriptHand → List Outcome
script_of hand = hand.script

-- the exchanges that it made
abbrev pub log_of : ScriptHand → List Exchange
log_of hand = hand.log.items

-- how many of these told of a fault
abbrev pub faults_of : ScriptHand → ℕ
faults_of hand = hand.failed

-- what its clock counts
abbrev pub clock_of : ScriptHand → Clock
clock_of hand = counts_of hand.clock.counts
