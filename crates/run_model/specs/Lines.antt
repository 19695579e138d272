-- The printed lines of a run: its report, and the line of its fault.
use Rattle.std.specs.Prelude.{ℕ, if◌then◌else◌, List, [], ◌∷◌, ◌++◌, slice_get, codes, decimal}
use Rattle.std.specs.Fmt.{signed_decimal}
use Rattle.std.specs.Option.{option_map_or}
use Rattle.engine_types.specs.declared.ActionKind.{ActionKind}
use Rattle.engine_types.specs.declared.Condition.{Condition}
use Rattle.engine_types.specs.declared.ContainerState.{ContainerState}
use Rattle.engine_types.specs.declared.Entry.{Entry}
use Rattle.engine_types.specs.declared.Health.{Health}
use Rattle.engine_types.specs.declared.Kind.{Kind}
use Rattle.engine_types.specs.declared.Outcome.{Outcome}
use Rattle.engine_types.specs.declared.Reply.{Reply}
use Rattle.engine_types.specs.declared.Report.{Report}
use Rattle.engine_types.specs.declared.Request.{Request}
use Rattle.engine_types.specs.declared.RunFault.{RunFault}
use Rattle.engine_types.specs.declared.SeenFault.{SeenFault}
use Rattle.engine_types.specs.declared.WireEnd.{WireEnd}
use Rattle.run_model.specs.Ending.{slot_name}
use Rattle.run_model.specs.Journals.{Holding, Setup, Work, ended_as, holding, is_well}
use Rattle.run_model.specs.Plans.{kind_of, network_name, slot_at}
use Rattle.run_model.specs.Shown.{shown}

-- the name of a seen container
abbrev pub container_name : Setup → ℕ → List ℕ
container_name setup c = option_map_or (λ row. row.name) (slice_get setup.seen.containers c) []

-- the name of a declared network
abbrev pub declared_network : Setup → ℕ → List ℕ
declared_network setup n =
    option_map_or (λ network. network.name) (slice_get setup.declared.networks n) []

-- the name of a declared volume
abbrev pub declared_volume : Setup → ℕ → List ℕ
declared_volume setup v =
    option_map_or (λ volume. volume.name) (slice_get setup.declared.volumes v) []

-- the name of the network that a slot's attach joins
abbrev pub attached_network : Setup → ℕ → ℕ → List ℕ
attached_network setup s k =
    option_map_or (λ slot. option_map_or (network_name setup.declared) (slice_get slot.attach k) [])
    (slot_at setup.declared s) []

-- the words of an action that ended well; the name of a container that was seen came from the Engine
abbrev pub done_words : Setup → ActionKind → List ℕ
done_words setup (ActionKind.MakeVolume v) =
    codes "volume " ++ declared_volume setup v ++ codes " created"
done_words setup (ActionKind.MakeNetwork n) =
    codes "network " ++ declared_network setup n ++ codes " created"
done_words setup (ActionKind.StopContainer c) =
    codes "container " ++ shown (container_name setup c) ++ codes " stopped"
done_words setup (ActionKind.RemoveContainer c) =
    codes "container " ++ shown (container_name setup c) ++ codes " removed"
done_words setup (ActionKind.CreateSlot s) =
    codes "container " ++ slot_name setup s ++ codes " created"
done_words setup (ActionKind.ConnectSlot s k) =
    codes "container " ++ slot_name setup s ++ codes " connected to " ++ attached_network setup s k
done_words setup (ActionKind.StopKept s) =
    codes "container " ++ slot_name setup s ++ codes " stopped"
done_words setup (ActionKind.StartSlot s) =
    codes "container " ++ slot_name setup s ++ codes " started"
done_words setup (ActionKind.RemoveNetwork n) =
    codes "network " ++ declared_network setup n ++ codes " removed"
done_words setup (ActionKind.RemoveVolume v) =
    codes "volume " ++ declared_volume setup v ++ codes " removed"

-- a line of these words
abbrev pub line : List ℕ → List ℕ
line words = words ++ 10 ∷ []

-- the line of an end: there is one where an action ended well
abbrev pub ended_line : Setup → Outcome → Holding → List ℕ
ended_line setup outcome (Work a) =
    if is_well (ended_as (kind_of setup.actions a) outcome)
    then option_map_or (λ kind. line (done_words setup kind)) (kind_of setup.actions a) [] else []
ended_line setup outcome _ = []

-- the report of a run: a line for each action that ended well, in the order of their ends
abbrev pub report_text : Setup → List Entry → List ℕ
report_text setup [] = []
report_text setup (Entry.Ended w outcome ∷ past) =
    report_text setup past ++ ended_line setup outcome (holding past w)
report_text setup (_ ∷ past) = report_text setup past

-- what a request asks, in words; ids came from the Engine
abbrev pub request_words : Request → List ℕ
request_words (Request.ListContainers project) = codes "list containers"
request_words (Request.Inspect id) = codes "inspect container " ++ shown id
request_words (Request.Logs id) = codes "logs container " ++ shown id
request_words (Request.Create name spec) = codes "create container " ++ name
request_words (Request.Start id) = codes "start container " ++ shown id
request_words (Request.Stop id seconds) = codes "stop container " ++ shown id
request_words (Request.Remove id) = codes "remove container " ++ shown id
request_words Request.ListNetworks = codes "list networks"
request_words (Request.MakeNetwork spec) = codes "create network " ++ spec.name
request_words (Request.Connect network container aliases) =
    codes "connect container " ++ shown container
request_words (Request.RemoveNetwork id) = codes "remove network " ++ shown id
request_words Request.ListVolumes = codes "list volumes"
request_words (Request.MakeVolume spec) = codes "create volume " ++ spec.name
request_words (Request.RemoveVolume name) = codes "remove volume " ++ name
request_words (Request.Image name) = codes "image " ++ name
request_words (Request.Pull name) = codes "pull " ++ name

-- the name of a cause of loss, without its place
abbrev pub cause_words : WireEnd → List ℕ
cause_words WireEnd.Fault = codes "Fault"
cause_words WireEnd.Ended = codes "Ended"
cause_words (WireEnd.Malformed at) = codes "Malformed"
cause_words WireEnd.Encoded = codes "Encoded"
cause_words WireEnd.TooLarge = codes "TooLarge"
cause_words WireEnd.BadBody = codes "BadBody"

-- the word of a kind, in lower case
abbrev pub kind_words : Kind → List ℕ
kind_words Kind.Service = codes "service"
kind_words Kind.Network = codes "network"
kind_words Kind.Volume = codes "volume"
kind_words Kind.Secret = codes "secret"
kind_words Kind.Config = codes "config"

-- the name of a condition
abbrev pub condition_words : Condition → List ℕ
condition_words Condition.Started = codes "Started"
condition_words Condition.Healthy = codes "Healthy"
condition_words Condition.Completed = codes "Completed"
condition_words Condition.Running = codes "Running"

-- the name of a container's state
abbrev pub state_words : ContainerState → List ℕ
state_words ContainerState.Created = codes "Created"
state_words ContainerState.Running = codes "Running"
state_words ContainerState.Paused = codes "Paused"
state_words ContainerState.Restarting = codes "Restarting"
state_words ContainerState.Removing = codes "Removing"
state_words ContainerState.Exited = codes "Exited"
state_words ContainerState.Dead = codes "Dead"

-- the name of a health
abbrev pub health_words : Health → List ℕ
health_words Health.Absent = codes "Absent"
health_words Health.Starting = codes "Starting"
health_words Health.Healthy = codes "Healthy"
health_words Health.Unhealthy = codes "Unhealthy"

-- a request that was refused, with the status and the Engine's message
abbrev pub refused_words : Request → ℕ → List ℕ → List ℕ
refused_words request status message =
    codes "refused: " ++ request_words request ++ codes ": " ++ decimal status ++ codes " "
    ++ shown message

-- a request whose response was lost, with the cause
abbrev pub lost_words : Request → WireEnd → List ℕ
lost_words request cause =
    codes "lost: " ++ request_words request ++ codes ": " ++ cause_words cause

-- a request that wasn't sent
abbrev pub not_sent_words : Request → List ℕ
not_sent_words request = codes "not sent: " ++ request_words request

-- an exchange that didn't end well; a reply of another request has no status
abbrev pub outcome_words : Request → Outcome → List ℕ
outcome_words request (Outcome.Answered (Reply.Refused status message)) =
    refused_words request status message
outcome_words request (Outcome.Answered reply) = refused_words request 0 []
outcome_words request (Outcome.Lost cause) = lost_words request cause
outcome_words request Outcome.NotSent = not_sent_words request
outcome_words request Outcome.Memory = codes "memory"

-- an observation that ended badly
abbrev pub seen_words : SeenFault → List ℕ
seen_words (SeenFault.RequestFailed request status message) = refused_words request status message
seen_words (SeenFault.PullFailed image message) =
    codes "pull " ++ image ++ codes ": " ++ shown message
seen_words (SeenFault.Lost request cause) = lost_words request cause
seen_words (SeenFault.NotSent request) = not_sent_words request
seen_words (SeenFault.NetworkTwice name first second) =
    codes "network " ++ name ++ codes " is there twice: " ++ shown first ++ codes " "
    ++ shown second
seen_words (SeenFault.ForeignNetwork name id) =
    codes "network " ++ name ++ codes " is foreign: " ++ shown id
seen_words (SeenFault.ExternalMissing kind name) =
    codes "external " ++ kind_words kind ++ codes " " ++ name ++ codes " is missing"
seen_words (SeenFault.NeedsBuild service) = service ++ codes " needs a build"
seen_words (SeenFault.TooManyActions count) = codes "TooManyActions: " ++ decimal count
seen_words SeenFault.Memory = codes "memory"

-- the report that a condition failed at
abbrev pub report_words : Report → List ℕ
report_words report =
    state_words report.state ++ codes " " ++ signed_decimal report.exit_code ++ codes " "
    ++ health_words report.health

-- the words of a run's fault
abbrev pub fault_words : RunFault → List ℕ
fault_words (RunFault.Seen fault) = seen_words fault
fault_words (RunFault.Request request outcome) = outcome_words request outcome
fault_words (RunFault.Condition slot condition report) =
    codes "condition failed: " ++ slot ++ codes " " ++ condition_words condition ++ codes " "
    ++ report_words report
fault_words RunFault.Stopped = codes "stopped"
fault_words (RunFault.Late why) = codes "late"
fault_words RunFault.Memory = codes "memory"

-- the line that a run's fault prints
abbrev pub fault_text : RunFault → List ℕ
fault_text fault = line (codes "compose: " ++ fault_words fault)
