-- Under which texts the actions of a plan are found, and under which ones an action finds those that it needs.
use Rattle.std.specs.Prelude.{ℕ, Bool, true, false, if◌then◌else◌, ◌==◌, List, [], ◌∷◌, ◌++◌, codes, decimal, filter, map, slice_get, unwrap_or}
use Rattle.std.specs.List.{before_first}
use Rattle.std.specs.Option.{option_map_or}
use Rattle.tree_base.specs.declared.Var.{Var}
use Rattle.engine_types.specs.Labels as the
use Rattle.engine_types.specs.Labels.{label}
use Rattle.engine_types.specs.declared.ActionKind.{ActionKind}
use Rattle.engine_types.specs.declared.ActionKind.TheVariants.{MakeVolume, MakeNetwork, StopContainer, RemoveContainer, CreateSlot, ConnectSlot, StopKept, StartSlot, RemoveNetwork, RemoveVolume}
use Rattle.engine_types.specs.declared.Declared.{Declared}
use Rattle.engine_types.specs.declared.Listed.{Listed}
use Rattle.engine_types.specs.declared.Seen.{Seen}
use Rattle.engine_types.specs.declared.Slot.{Slot}
use Rattle.run_model.specs.Numbers.{places}
use Rattle.run_model.specs.Observation.{is_up}
use Rattle.run_model.specs.Plans.{Basis, is_needed_by, network_name, slot_at}
use Rattle.plan_core.specs.Index.{numbers_under, places_under}
use Rattle.plan_core.specs.Rows.{id_at}

-- the service that labels name, and the empty text where they name none
abbrev pub service_named : List Var → List ℕ
service_named labels = unwrap_or (label labels the.service_label) []

-- the number that labels name, and the empty text where they name none
abbrev pub number_named : List Var → List ℕ
number_named labels = unwrap_or (label labels the.number_label) []

-- a service with a number behind it: under this text a slot and its containers are found
abbrev pub joined : List ℕ → List ℕ → List ℕ
joined service number = service ++ codes "-" ++ number

-- the text of a slot
abbrev pub slot_text : Slot → List ℕ
slot_text slot = joined slot.service (decimal slot.number)

-- the text of the slot that a container's labels name
abbrev pub container_text : Listed → List ℕ
container_text row = joined (service_named row.labels) (number_named row.labels)

-- the text of the slot with this number, and the empty text past the last
abbrev pub slot_text_at : Declared → ℕ → List ℕ
slot_text_at declared s = option_map_or slot_text (slot_at declared s) []

-- the text of the slot that the labels of the container at this place name, and the empty text past the last
abbrev pub slot_seen : Seen → ℕ → List ℕ
slot_seen seen c = option_map_or container_text (slice_get seen.containers c) []

-- the service that the labels of the container at this place name, and the empty text past the last
abbrev pub service_seen : Seen → ℕ → List ℕ
service_seen seen c =
    option_map_or (λ row. service_named row.labels) (slice_get seen.containers c) []

-- the name of the container at this place, and the empty text past the last
abbrev pub name_seen : Seen → ℕ → List ℕ
name_seen seen c = option_map_or (λ row. row.name) (slice_get seen.containers c) []

-- the name of the volume with this number, and the empty text past the last
abbrev pub volume_name_at : Declared → ℕ → List ℕ
volume_name_at declared v = option_map_or (λ volume. volume.name) (slice_get declared.volumes v) []

-- the name of the network with this number, and the empty text past the last
abbrev pub network_name_at : Declared → ℕ → List ℕ
network_name_at declared n =
    option_map_or (λ network. network.name) (slice_get declared.networks n) []

-- the name of the slot with this number, and the empty text past the last
abbrev pub slot_name_at : Declared → ℕ → List ℕ
slot_name_at declared s = option_map_or (λ slot. slot.name) (slot_at declared s) []

-- the key of the service with this number, and the empty text past the last
abbrev pub service_key_at : Declared → ℕ → List ℕ
service_key_at declared n =
    option_map_or (λ service. service.key) (slice_get declared.services n) []

-- the numbers of the services, each under the keys of those that it depends on
abbrev pub dependents_of : Declared → List (List ℕ × ℕ)
dependents_of declared = places_under (λ service. service.depends_on) 0 declared.services

-- the names of the slots that a slot needs
abbrev pub needed_names : Declared → Slot → List (List ℕ)
needed_names declared slot = map (λ need. slot_name_at declared need.slot) slot.needs

-- the texts under which an action is found: the stop of a container under its id, its removal under its service,
-- its slot and its name, what is done with a slot's container under the slot's name, and the make of a network or
-- volume under its name
abbrev pub texts_of : Basis → ActionKind → List (List ℕ)
texts_of basis (MakeVolume v) = volume_name_at basis.declared v ∷ []
texts_of basis (MakeNetwork n) = network_name_at basis.declared n ∷ []
texts_of basis (StopContainer c) = id_at basis.seen.containers c ∷ []
texts_of basis (RemoveContainer c) =
    service_seen basis.seen c ∷ slot_seen basis.seen c ∷ name_seen basis.seen c ∷ []
texts_of basis (CreateSlot s) = slot_name_at basis.declared s ∷ []
texts_of basis (ConnectSlot s k) = slot_name_at basis.declared s ∷ []
texts_of basis (StopKept s) = slot_name_at basis.declared s ∷ []
texts_of basis (StartSlot s) = slot_name_at basis.declared s ∷ []
texts_of basis _ = []

-- the places of actions under the texts under which they are found
abbrev pub actions_under : Basis → List ActionKind → List (List ℕ × ℕ)
actions_under basis kinds = places_under (texts_of basis) 0 kinds

-- the name of the network that the attach with this number of the slot with this number joins
abbrev pub joined_name : Declared → ℕ → ℕ → List ℕ
joined_name declared s k =
    option_map_or (λ slot. option_map_or (network_name declared) (slice_get slot.attach k) [])
    (slot_at declared s) []

-- what stands before the first colon of each bind of a slot
abbrev pub bind_sources : Slot → List (List ℕ)
bind_sources slot = map (before_first (λ byte. byte == 58)) (unwrap_or slot.spec.binds [])

-- the texts under which the create of a slot's container finds what it needs: removals, networks and volumes
abbrev pub asked_by_slot : Declared → Slot → List (List ℕ)
asked_by_slot declared slot =
    (slot_text slot ∷ slot.name ∷ []) ++ map (network_name declared) slot.attach
    ++ bind_sources slot

-- the services that depend on the service of the container at this place
abbrev pub dependents_on : Declared → Seen → ℕ → List (List ℕ)
dependents_on declared seen c =
    map (service_key_at declared)
    (numbers_under (dependents_of declared) (service_seen seen c))

-- the texts under which an action finds those that it needs; what needs every removal has none
abbrev pub asked_of : Basis → ActionKind → List (List ℕ)
asked_of basis (StopContainer c) =
    if is_up basis.aim.purpose then [] else dependents_on basis.declared basis.seen c
asked_of basis (RemoveContainer c) = id_at basis.seen.containers c ∷ []
asked_of basis (CreateSlot s) =
    option_map_or (asked_by_slot basis.declared) (slot_at basis.declared s) []
asked_of basis (ConnectSlot s k) =
    slot_name_at basis.declared s ∷ joined_name basis.declared s k ∷ []
asked_of basis (StopKept s) =
    option_map_or (needed_names basis.declared) (slot_at basis.declared s) []
asked_of basis (StartSlot s) = slot_name_at basis.declared s ∷ []
asked_of basis _ = []

-- whether an action needs every removal
abbrev pub needs_removals : ActionKind → Bool
needs_removals (RemoveNetwork n) = true
needs_removals (RemoveVolume v) = true
needs_removals _ = false

-- whether an action is the removal of a container
abbrev pub is_removal : ActionKind → Bool
is_removal (RemoveContainer c) = true
is_removal _ = false

-- whether the action at this place is the removal of a container
abbrev pub is_removal_at : List ActionKind → ℕ → Bool
is_removal_at kinds b = option_map_or is_removal (slice_get kinds b) false

-- the places of the removals
abbrev pub removals_in : List ActionKind → List ℕ
removals_in kinds = filter (is_removal_at kinds) (places kinds)

-- whether an action needs the one at this place
abbrev pub is_needed_at : Basis → List ActionKind → ActionKind → ℕ → Bool
is_needed_at basis kinds kind b = option_map_or (is_needed_by basis kind) (slice_get kinds b) false
