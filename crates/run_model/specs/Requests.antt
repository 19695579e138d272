-- The requests of a run: of an action, and of a poll.
use Rattle.std.specs.Prelude.{ℕ, if◌then◌else◌, ◌==◌, List, [], ◌∷◌, Option, Some, None, find, length, slice_get, option_map, option_and_then, unwrap_or}
use Rattle.std.specs.Option.{option_map_or}
use Rattle.std.specs.Str.{bytes_eq}
use Rattle.tree_base.specs.Limits.{usual_stop_seconds}
use Rattle.engine_types.specs.declared.ActionKind.{ActionKind}
use Rattle.engine_types.specs.declared.ActionKind.TheVariants.{MakeVolume, MakeNetwork, StopContainer, RemoveContainer, CreateSlot, ConnectSlot, StopKept, StartSlot, RemoveNetwork, RemoveVolume}
use Rattle.engine_types.specs.declared.Attach.{Attach}
use Rattle.engine_types.specs.declared.Entry.{Entry}
use Rattle.engine_types.specs.declared.Listed.{Listed}
use Rattle.engine_types.specs.declared.Reply.{Reply}
use Rattle.engine_types.specs.declared.Request.{Request}
use Rattle.run_model.specs.Journals.{Holding, Nothing, Setup, Standing, Watch, Well, Work, holding, standing}
use Rattle.run_model.specs.Labels.{names_slot}
use Rattle.run_model.specs.Plans.{create_of, kept, kept_of, kind_of, make_of, slot_at}

-- the id that a create or a make was told
abbrev pub made_id : Standing → Option (List ℕ)
made_id (Well (Reply.Made id)) = Some id
made_id _ = None

-- the id of a slot's container: that of the kept one, or what its create was told
abbrev pub slot_id : Setup → List Entry → ℕ → Option (List ℕ)
slot_id setup past s = of (kept setup.declared setup.seen s)
  where
    of : Option Listed → Option (List ℕ)
    of (Some row) = Some row.id
    of None = option_and_then (λ a. made_id (standing setup past a)) (create_of setup.actions s)

-- the id that was seen of the network with a name
abbrev pub seen_network_id : Setup → List ℕ → Option (List ℕ)
seen_network_id setup name =
    option_map (λ row. row.id) (find (λ row. bytes_eq row.name name) setup.seen.networks)

-- the id of a declared network: what its make was told, or the one that was seen
abbrev pub network_id : Setup → List Entry → ℕ → Option (List ℕ)
network_id setup past n = of (make_of setup.actions n)
  where
    of : Option ℕ → Option (List ℕ)
    of (Some a) = made_id (standing setup past a)
    of None =
        option_and_then (λ network. seen_network_id setup network.name)
        (slice_get setup.declared.networks n)

-- how long a stop waits: as asked for the run, else as the slot of the container's labels says, else 10 seconds
abbrev pub stop_seconds : Setup → Listed → ℕ
stop_seconds setup row = unwrap_or setup.limits.stop_seconds
    (option_map_or (λ slot. slot.stop_seconds)
    (find (λ slot. names_slot slot row.labels) setup.declared.slots) usual_stop_seconds)

-- the connect of a slot's container to the network of one of its attaches
abbrev pub connect_request : Setup → List Entry → ℕ → Attach → Option Request
connect_request setup past s attach =
    option_and_then (λ network. option_map (λ id. Request.Connect network id attach.aliases)
    (slot_id setup past s)) (network_id setup past attach.network)

-- the request of an action of this kind, by what the entries told so far
abbrev pub request_of : Setup → List Entry → ActionKind → Option Request
request_of setup past (MakeVolume v) =
    option_map (λ spec. Request.MakeVolume spec) (slice_get setup.declared.volumes v)
request_of setup past (MakeNetwork n) =
    option_map (λ spec. Request.MakeNetwork spec) (slice_get setup.declared.networks n)
request_of setup past (StopContainer c) =
    option_map (λ row. Request.Stop row.id (stop_seconds setup row))
    (slice_get setup.seen.containers c)
request_of setup past (RemoveContainer c) =
    option_map (λ row. Request.Remove row.id) (slice_get setup.seen.containers c)
request_of setup past (CreateSlot s) =
    option_map (λ slot. Request.Create slot.name slot.spec) (slot_at setup.declared s)
request_of setup past (ConnectSlot s k) =
    option_and_then (λ slot. option_and_then (connect_request setup past s)
    (slice_get slot.attach k)) (slot_at setup.declared s)
request_of setup past (StopKept s) =
    option_and_then (λ slot. option_map (λ row. Request.Stop row.id slot.stop_seconds)
    (kept_of setup.declared setup.seen slot)) (slot_at setup.declared s)
request_of setup past (StartSlot s) = option_map (λ id. Request.Start id) (slot_id setup past s)
request_of setup past (RemoveNetwork n) =
    option_map (λ id. Request.RemoveNetwork id) (network_id setup past n)
request_of setup past (RemoveVolume v) =
    option_map (λ spec. Request.RemoveVolume spec.name) (slice_get setup.declared.volumes v)

-- the request of the action with this number
abbrev pub action_request : Setup → List Entry → ℕ → Option Request
action_request setup past a = option_and_then (request_of setup past) (kind_of setup.actions a)

-- the request of a poll: the Engine is asked for the state of the slot's container
abbrev pub poll_request : Setup → List Entry → ℕ → Option Request
poll_request setup past s = option_map (λ id. Request.Inspect id) (slot_id setup past s)

-- whose an exchange is: the observation's, by its place there, an action's, or that of the poll that stands after so many entries
pub data Source : Type 0 where
  OfSeen : ℕ → Source
  OfAction : ℕ → Source
  OfPoll : ℕ → Source

-- the request of an exchange, as it was made where it was claimed or polled
abbrev pub asked : Setup → List Entry → Source → Option Request
asked setup [] source = None
asked setup (Entry.Seen observed ∷ past) (OfSeen i) =
    option_map (λ exchange. exchange.request) (slice_get observed.exchanges i)
asked setup (Entry.Claim v b ∷ past) (OfAction a) =
    if b == a then action_request setup past a else asked setup past (OfAction a)
asked setup (Entry.Poll v s ∷ past) (OfPoll n) =
    if length past == n then poll_request setup past s else asked setup past (OfPoll n)
asked setup (_ ∷ past) source = asked setup past source

-- how many entries stood before a worker's latest poll
abbrev pub poll_place : List Entry → ℕ → ℕ
poll_place [] w = 0
poll_place (Entry.Poll v s ∷ past) w = if v == w then length past else poll_place past w
poll_place (_ ∷ past) w = poll_place past w

-- the exchange that a worker's permit is for
abbrev pub source_of : List Entry → ℕ → Option Source
source_of past w = of (holding past w)
  where
    of : Holding → Option Source
    of Nothing = None
    of (Work a) = Some (OfAction a)
    of (Watch s) = Some (OfPoll (poll_place past w))

-- the request of a worker's latest claim or poll; each has one, and a listing stands where there is none
abbrev pub request_out : Setup → List Entry → ℕ → Request
request_out setup past w =
    unwrap_or (option_and_then (asked setup past) (source_of past w))
    (Request.ListContainers setup.declared.project)
