-- What a plan has: which actions, in which order, and what each needs before it.
use Rattle.std.specs.Prelude.{◌≡◌, ◌↔◌, ℕ, ◌<◌, ◌^◌, ◌-◌, min, Bool, true, false, not, if◌then◌else◌, ◌&&◌, ◌||◌, ◌==◌, nat_lt, List, [], ◌∷◌, ◌++◌, Option, Some, None, filter, find, map, flat_map, length, slice_get, option_map, option_and_then, is_some, unwrap_or}
use Rattle.std.specs.List.{list_any, before_first}
use Rattle.std.specs.Option.{option_map_or}
use Rattle.std.specs.Str.{bytes_eq}
use Rattle.engine_types.specs.declared.Aim.{Aim}
use Rattle.tree_base.specs.Limits.{most_actions}
use Rattle.engine_types.specs.declared.Action.{Action}
use Rattle.engine_types.specs.declared.ActionKind.{ActionKind}
use Rattle.engine_types.specs.declared.ActionKind.TheVariants.{MakeVolume, MakeNetwork, StopContainer, RemoveContainer, CreateSlot, ConnectSlot, StopKept, StartSlot, RemoveNetwork, RemoveVolume}
use Rattle.engine_types.specs.declared.Attach.{Attach}
use Rattle.engine_types.specs.declared.Condition.{Condition}
use Rattle.engine_types.specs.declared.ContainerSpec.{ContainerSpec}
use Rattle.engine_types.specs.declared.Declared.{Declared}
use Rattle.engine_types.specs.declared.DeclaredService.{DeclaredService}
use Rattle.engine_types.specs.declared.Listed.{Listed}
use Rattle.engine_types.specs.declared.Need.{Need}
use Rattle.engine_types.specs.declared.Purpose.{Purpose}
use Rattle.engine_types.specs.declared.Seen.{Seen}
use Rattle.engine_types.specs.declared.Slot.{Slot}
use Rattle.run_model.specs.EngineRules.{Among, is_live, is_of_project}
use Rattle.run_model.specs.Labels.{agrees, has_declared_service, is_of_slot, names_service, names_slot}
use Rattle.run_model.specs.Observation.{is_up}
use Rattle.tree_base.specs.ByteOrder.{IsAscending, by_key, is_before, least_by}
use Rattle.run_model.specs.Numbers.{places}

-- what a plan is made from
pub record Basis : Type 0 where
  pub declared : Declared
  pub seen : Seen
  pub aim : Aim

-- what the plan of a run is made from
abbrev pub basis_of : Declared → Seen → Aim → Basis
basis_of declared seen aim = record { declared = declared; seen = seen; aim = aim }

-- what `up` is for: no volumes go
abbrev pub up_aim : Bool → Aim
up_aim orphans = record { purpose = Purpose.Up; orphans = orphans; volumes = false }

-- what `down` is for
abbrev pub down_aim : Bool → Bool → Aim
down_aim orphans volumes =
    record { purpose = Purpose.Down; orphans = orphans; volumes = volumes }

-- the slot with this number
abbrev pub slot_at : Declared → ℕ → Option Slot
slot_at declared s = slice_get declared.slots s

-- the id that was seen of a slot's image
abbrev pub seen_image : Seen → Slot → Option (List ℕ)
seen_image seen slot =
    option_map (λ row. row.id) (find (λ row. bytes_eq row.name slot.image) seen.images)

-- whether a container was seen to agree with a slot
abbrev pub agrees_seen : Declared → Seen → Slot → Listed → Bool
agrees_seen declared seen slot row =
    agrees declared.project slot (seen_image seen slot) row.labels row.image_id row.state

-- the container that a slot keeps: of those that agree with it, the one with the least id
abbrev pub kept_of : Declared → Seen → Slot → Option Listed
kept_of declared seen slot =
    least_by (λ row. row.id) (filter (agrees_seen declared seen slot) seen.containers)

-- the container that the slot with this number keeps
abbrev pub kept : Declared → Seen → ℕ → Option Listed
kept declared seen s = option_and_then (kept_of declared seen) (slot_at declared s)

-- whether some slot keeps a container
abbrev pub is_kept : Declared → Seen → Listed → Bool
is_kept declared seen row =
    list_any (λ slot. option_map_or (λ other. bytes_eq other.id row.id)
    (kept_of declared seen slot) false) declared.slots

-- the places, among the containers that were seen, of those that the slots keep
abbrev pub AreKeptPlaces : Declared → Seen → List (Option ℕ) → Type 0
AreKeptPlaces declared seen kept_places =
    map (option_and_then (slice_get seen.containers)) kept_places
    ≡ map (kept_of declared seen) declared.slots

-- whether a container is to go: it is of the project, and an orphan where these are asked for, else one of a declared
-- service that `up` doesn't keep
abbrev pub is_removed : Basis → Listed → Bool
is_removed basis row =
    is_of_project basis.declared.project row.labels
    && (if has_declared_service basis.declared row.labels
    then not (is_up basis.aim.purpose && is_kept basis.declared basis.seen row)
    else basis.aim.orphans)

-- whether a network with this name was seen
abbrev pub is_network_seen : Seen → List ℕ → Bool
is_network_seen seen name = list_any (λ row. bytes_eq row.name name) seen.networks

-- whether a volume with this name was seen
abbrev pub is_volume_seen : Seen → List ℕ → Bool
is_volume_seen seen name = list_any (bytes_eq name) seen.volumes

-- the name of the network that a slot's attach joins
abbrev pub network_name : Declared → Attach → List ℕ
network_name declared attach =
    option_map_or (λ network. network.name) (slice_get declared.networks attach.network) []

-- whether a slot's attach is still to be made: the create makes the first one, and a kept container has those that were seen
abbrev pub is_unattached : Basis → Slot → ℕ → Bool
is_unattached basis slot k =
    option_map_or (λ attach. of attach (kept_of basis.declared basis.seen slot))
    (slice_get slot.attach k) false
  where
    of : Attach → Option Listed → Bool
    of attach (Some row) =
        not (list_any (bytes_eq (network_name basis.declared attach)) row.networks)
    of attach None = not (k == 0)

-- whether a slot keeps a live container
abbrev pub keeps_live : Declared → Seen → Slot → Bool
keeps_live declared seen slot =
    option_map_or (λ row. is_live row.state) (kept_of declared seen slot) false

-- whether a container of a slot was seen
abbrev pub has_container : Declared → Seen → Slot → Bool
has_container declared seen slot =
    list_any (λ row. is_of_slot declared.project slot row.labels) seen.containers

-- whether a slot is updated by `up`: it keeps no container, so that one is created, and a container of it was seen
abbrev pub is_updated : Declared → Seen → Slot → Bool
is_updated declared seen slot =
    not (is_some (kept_of declared seen slot)) && has_container declared seen slot

-- whether a need asks for a restart: it says so, and the slot that is needed is updated; `restart` of the Compose
-- Specification's `depends_on`
abbrev pub asks_restart : Declared → Seen → Need → Bool
asks_restart declared seen need =
    need.restart && option_map_or (is_updated declared seen) (slot_at declared need.slot) false

-- whether the container that a slot keeps is stopped, to start anew: it is live, and a need of the slot asks for a restart
abbrev pub is_restarted : Declared → Seen → Slot → Bool
is_restarted declared seen slot =
    keeps_live declared seen slot && list_any (asks_restart declared seen) slot.needs

-- whether a slot's container is to be started: no live one is kept, or the one that is kept is stopped
abbrev pub is_unstarted : Basis → Slot → Bool
is_unstarted basis slot =
    not (keeps_live basis.declared basis.seen slot) || is_restarted basis.declared basis.seen slot

-- whether the plan has an action
abbrev pub is_wanted : Basis → ActionKind → Bool
is_wanted basis (MakeVolume v) = is_up basis.aim.purpose
    && option_map_or (λ volume. not volume.external && not (is_volume_seen basis.seen volume.name))
    (slice_get basis.declared.volumes v) false
is_wanted basis (MakeNetwork n) = is_up basis.aim.purpose
    && option_map_or
    (λ network. not network.external && not (is_network_seen basis.seen network.name))
    (slice_get basis.declared.networks n) false
is_wanted basis (StopContainer c) =
    option_map_or (is_removed basis) (slice_get basis.seen.containers c) false
is_wanted basis (RemoveContainer c) =
    option_map_or (is_removed basis) (slice_get basis.seen.containers c) false
is_wanted basis (CreateSlot s) =
    is_up basis.aim.purpose
    && option_map_or (λ slot. not (is_some (kept_of basis.declared basis.seen slot)))
    (slot_at basis.declared s) false
is_wanted basis (ConnectSlot s k) =
    is_up basis.aim.purpose
    && option_map_or (λ slot. is_unattached basis slot k) (slot_at basis.declared s) false
is_wanted basis (StopKept s) =
    is_up basis.aim.purpose
    && option_map_or (is_restarted basis.declared basis.seen) (slot_at basis.declared s) false
is_wanted basis (StartSlot s) =
    is_up basis.aim.purpose && option_map_or (is_unstarted basis) (slot_at basis.declared s) false
is_wanted basis (RemoveNetwork n) = not (is_up basis.aim.purpose)
    && option_map_or (λ network. not network.external && is_network_seen basis.seen network.name)
    (slice_get basis.declared.networks n) false
is_wanted basis (RemoveVolume v) = not (is_up basis.aim.purpose) && basis.aim.volumes
    && option_map_or (λ volume. not volume.external && is_volume_seen basis.seen volume.name)
    (slice_get basis.declared.volumes v) false

-- whether a container is made with a volume: the part of a bind before its first colon is the volume's name
abbrev pub is_bound_by : ContainerSpec → List ℕ → Bool
is_bound_by spec name =
    list_any (λ bind. bytes_eq name (before_first (λ c. c == 58) bind)) (unwrap_or spec.binds [])

-- whether a slot attaches to the network with this number
abbrev pub attaches_to : ℕ → Slot → Bool
attaches_to n slot = list_any (λ attach. attach.network == n) slot.attach

-- whether a container's service depends on another container's: the Compose Specification's `depends_on`
abbrev pub depends_on : Declared → Listed → Listed → Bool
depends_on declared row other =
    list_any (λ service. names_service service.key row.labels
    && list_any (λ key. names_service key other.labels) service.depends_on) declared.services

-- whether a container is of a slot or has its name
abbrev pub is_in_way : Slot → Listed → Bool
is_in_way slot row = names_slot slot row.labels || bytes_eq row.name slot.name

-- whether a need of a slot asks for a restart by the update of the slot with this number
abbrev pub restarts_for : Declared → Seen → ℕ → Slot → Bool
restarts_for declared seen t slot =
    list_any (λ need. (need.slot == t) && asks_restart declared seen need) slot.needs

-- whether an action needs another one to have ended well
abbrev pub is_needed_by : Basis → ActionKind → ActionKind → Bool
is_needed_by basis (StopContainer c) (RemoveContainer d) = not (is_up basis.aim.purpose)
    && option_map_or
    (λ row. option_map_or (λ other. depends_on basis.declared other row)
    (slice_get basis.seen.containers d) false)
    (slice_get basis.seen.containers c) false
is_needed_by basis (RemoveContainer c) (StopContainer d) = c == d
is_needed_by basis (CreateSlot s) (RemoveContainer c) =
    option_map_or (λ slot. option_map_or (is_in_way slot) (slice_get basis.seen.containers c) false)
    (slot_at basis.declared s) false
is_needed_by basis (CreateSlot s) (MakeNetwork n) =
    option_map_or (attaches_to n) (slot_at basis.declared s) false
is_needed_by basis (CreateSlot s) (MakeVolume v) =
    option_map_or (λ slot. option_map_or (λ volume. is_bound_by slot.spec volume.name)
    (slice_get basis.declared.volumes v) false)
    (slot_at basis.declared s) false
is_needed_by basis (ConnectSlot s k) (CreateSlot t) = s == t
is_needed_by basis (ConnectSlot s k) (MakeNetwork n) =
    option_map_or (λ slot. option_map_or (λ attach. attach.network == n)
    (slice_get slot.attach k) false) (slot_at basis.declared s) false
is_needed_by basis (StartSlot s) (CreateSlot t) = s == t
is_needed_by basis (StopKept s) (StartSlot t) =
    option_map_or (restarts_for basis.declared basis.seen t) (slot_at basis.declared s) false
is_needed_by basis (StartSlot s) (ConnectSlot t k) = s == t
is_needed_by basis (StartSlot s) (StopKept t) = s == t
is_needed_by basis (RemoveNetwork n) (RemoveContainer c) = true
is_needed_by basis (RemoveVolume v) (RemoveContainer c) = true
is_needed_by _ _ _ = false

-- the places of the containers in byte order of their ids
abbrev pub places_by_id : List Listed → List ℕ
places_by_id rows = by_key (λ c. option_map_or (λ row. row.id) (slice_get rows c) []) (places rows)

-- every action that a plan could have, in the order of their numbers
abbrev pub possible : Basis → List ActionKind
possible basis =
    map (λ v. MakeVolume v) (places basis.declared.volumes)
    ++ map (λ n. MakeNetwork n) (places basis.declared.networks)
    ++ flat_map (λ c. StopContainer c ∷ RemoveContainer c ∷ []) (places_by_id basis.seen.containers)
    ++ map (λ s. CreateSlot s) (places basis.declared.slots)
    ++ flat_map (λ s. map (λ k. ConnectSlot s k) (places (attaches s)))
    (places basis.declared.slots)
    ++ map (λ s. StopKept s) (places basis.declared.slots)
    ++ map (λ s. StartSlot s) (places basis.declared.slots)
    ++ map (λ n. RemoveNetwork n) (places basis.declared.networks)
    ++ map (λ v. RemoveVolume v) (places basis.declared.volumes)
  where
    attaches : ℕ → List Attach
    attaches s = option_map_or (λ slot. slot.attach) (slot_at basis.declared s) []

-- the actions of the plan, numbered by their places
abbrev pub planned_kinds : Basis → List ActionKind
planned_kinds basis = filter (is_wanted basis) (possible basis)

-- the numbers of the actions that an action needs
abbrev pub needed_by : Basis → List ActionKind → ActionKind → List ℕ
needed_by basis kinds kind =
    filter (λ b. option_map_or (is_needed_by basis kind) (slice_get kinds b) false) (places kinds)

-- the plan: its actions with their needs
abbrev pub planned : Basis → List Action
planned basis =
    map (λ kind. record { kind = kind; needs = needed_by basis (planned_kinds basis) kind })
    (planned_kinds basis)

-- whether a plan has more actions than a run takes
abbrev pub is_too_long : Basis → Bool
is_too_long basis = nat_lt most_actions (length (planned_kinds basis))

-- how many actions a plan has, as far as 64 bits tell
abbrev pub action_count : Basis → ℕ
action_count basis = min (length (planned_kinds basis)) (2 ^ 64 - 1)

-- the kind of the action with this number
abbrev pub kind_of : List Action → ℕ → Option ActionKind
kind_of actions a = option_map (λ action. action.kind) (slice_get actions a)

-- the numbers of the actions that the action with this number needs
abbrev pub needs_of : List Action → ℕ → List ℕ
needs_of actions a = option_map_or (λ action. action.needs) (slice_get actions a) []

-- the actions are the plan's, and each needs at least what it needs in the plan
pub record HasPlan (basis : Basis) (actions : List Action) : Type 0 where
  pub kinds : map (λ action. action.kind) actions ≡ planned_kinds basis
  pub needs : (a b : ℕ) (kind other : ActionKind) → kind_of actions a ≡ Some kind
      → kind_of actions b ≡ Some other
      → is_needed_by basis kind other ≡ true → Among (needs_of actions a) b

-- a plan as a set of actions: it has exactly those that are wanted, each once, and each needs exactly those that it is said to need
pub record IsPlanOf (basis : Basis) (actions : List Action) : Type 0 where
  pub wanted : (a : ℕ) (kind : ActionKind) → kind_of actions a ≡ Some kind
      → is_wanted basis kind ≡ true
  pub all : (kind : ActionKind) → is_wanted basis kind ≡ true
      → (a : ℕ) × (kind_of actions a ≡ Some kind)
  pub once : (a b : ℕ) (kind : ActionKind) → kind_of actions a ≡ Some kind
      → kind_of actions b ≡ Some kind → a ≡ b
  pub needs : (a b : ℕ) (kind other : ActionKind) → kind_of actions a ≡ Some kind
      → kind_of actions b ≡ Some other
      → (Among (needs_of actions a) b ↔ (is_needed_by basis kind other ≡ true))

-- actions that carry a plan out: exactly those that are wanted, each once, and each needs at least those that it is said to need
pub record CarriesOut (basis : Basis) (actions : List Action) : Type 0 where
  pub wanted : (a : ℕ) (kind : ActionKind) → kind_of actions a ≡ Some kind
      → is_wanted basis kind ≡ true
  pub all : (kind : ActionKind) → is_wanted basis kind ≡ true
      → (a : ℕ) × (kind_of actions a ≡ Some kind)
  pub once : (a b : ℕ) (kind : ActionKind) → kind_of actions a ≡ Some kind
      → kind_of actions b ≡ Some kind → a ≡ b
  pub needs : (a b : ℕ) (kind other : ActionKind) → kind_of actions a ≡ Some kind
      → kind_of actions b ≡ Some other
      → is_needed_by basis kind other ≡ true → Among (needs_of actions a) b

-- a plan leaves kept containers alone: none is stopped but by a stop of its slot's kept container, or removed, and no slot
-- that keeps one gets another
pub record LeavesKept (basis : Basis) : Type 0 where
  pub stops : (c : ℕ) (row : Listed) → slice_get basis.seen.containers c ≡ Some row
      → is_kept basis.declared basis.seen row ≡ true
      → is_wanted basis (StopContainer c) ≡ false
  pub removes : (c : ℕ) (row : Listed) → slice_get basis.seen.containers c ≡ Some row
      → is_kept basis.declared basis.seen row ≡ true
      → is_wanted basis (RemoveContainer c) ≡ false
  pub creates : (s : ℕ) (row : Listed) → kept basis.declared basis.seen s ≡ Some row
      → is_wanted basis (CreateSlot s) ≡ false

-- whether an action starts this slot
abbrev pub is_start_of : ℕ → Option ActionKind → Bool
is_start_of s (Some (StartSlot t)) = t == s
is_start_of s _ = false

-- the action that starts a slot
abbrev pub start_of : List Action → ℕ → Option ℕ
start_of actions s = find (λ a. is_start_of s (kind_of actions a)) (places actions)

-- whether an action creates this slot's container
abbrev pub is_create_of : ℕ → Option ActionKind → Bool
is_create_of s (Some (CreateSlot t)) = t == s
is_create_of s _ = false

-- the action that creates a slot's container
abbrev pub create_of : List Action → ℕ → Option ℕ
create_of actions s = find (λ a. is_create_of s (kind_of actions a)) (places actions)

-- whether an action makes this network
abbrev pub is_make_of : ℕ → Option ActionKind → Bool
is_make_of n (Some (MakeNetwork m)) = m == n
is_make_of n _ = false

-- the action that makes a network
abbrev pub make_of : List Action → ℕ → Option ℕ
make_of actions n = find (λ a. is_make_of n (kind_of actions a)) (places actions)

-- what the slot needs that an action starts; other actions wait for no condition
abbrev pub slot_needs : Declared → Option ActionKind → List Need
slot_needs declared (Some (StartSlot s)) =
    option_map_or (λ slot. slot.needs) (slot_at declared s) []
slot_needs declared _ = []

-- the actions can be listed so that each stands after those that it needs, and each start also after the starts of
-- the slots that its slot needs: there is a rank that rises along all of these
pub record IsOrderly (declared : Declared) (actions : List Action) : Type 0 where
  pub rank : ℕ → ℕ
  pub within : (a : ℕ) → a < length actions → rank a < length actions
  pub there : (a b : ℕ) → Among (needs_of actions a) b → b < length actions
  pub needs : (a b : ℕ) → Among (needs_of actions a) b → rank b < rank a
  pub starts : (a b : ℕ) (need : Need) → Among (slot_needs declared (kind_of actions a)) need
      → start_of actions need.slot ≡ Some b → rank b < rank a

-- whether one slot stands before another: by service, then by number
abbrev pub is_slot_before : Slot → Slot → Bool
is_slot_before slot other =
    is_before slot.service other.service
    || (bytes_eq slot.service other.service && nat_lt slot.number other.number)

-- the condition Running, for which no slot may wait
abbrev pub is_running : Condition → Bool
is_running Condition.Running = true
is_running _ = false

-- each slot is of a declared service
abbrev pub HasServices : Declared → Type 0
HasServices declared =
    (slot : Slot) → Among declared.slots slot
    → list_any (λ service. bytes_eq service.key slot.service) declared.services ≡ true

-- the numbers of the slots are numbers of 32 bits
abbrev pub HasSmallNumbers : Declared → Type 0
HasSmallNumbers declared = (slot : Slot) → Among declared.slots slot → slot.number < 2 ^ 32

-- a whole declared set: slots in byte order of service, then by number, services in byte order of key, networks and volumes
-- in byte order of name; each slot is of a declared service, attaches and needs name networks and slots that are there, no need
-- asks for Running, and a rolling update replaces at least one slot at a time
pub record IsWhole (declared : Declared) : Type 0 where
  pub slots : IsAscending is_slot_before declared.slots
  pub services : IsAscending (λ service other. is_before service.key other.key) declared.services
  pub owners : HasServices declared
  pub networks : IsAscending (λ network other. is_before network.name other.name) declared.networks
  pub volumes : IsAscending (λ volume other. is_before volume.name other.name) declared.volumes
  pub attaches : (slot : Slot) (attach : Attach) → Among declared.slots slot
      → Among slot.attach attach → attach.network < length declared.networks
  pub needs : (slot : Slot) (need : Need) → Among declared.slots slot → Among slot.needs need
      → need.slot < length declared.slots
  pub conditions : (slot : Slot) (need : Need) → Among declared.slots slot → Among slot.needs need
      → is_running need.condition ≡ false
  pub rolls : (service : DeclaredService) → Among declared.services service → service.roll ≡ Some 0
      → ⊥
