-- What a rolling update adds to the needs of a plan's actions, and how it is looked up.
use Rattle.std.specs.Prelude.{◌≡◌, ℕ, Bool, true, false, not, ◌&&◌, ◌↔◌, List, [], Option, Some, filter, map, slice_get}
use Rattle.std.specs.Option.{option_map_or}
use Rattle.std.specs.Str.{bytes_eq}
use Rattle.engine_types.specs.declared.Action.{Action}
use Rattle.engine_types.specs.declared.ActionKind.{ActionKind}
use Rattle.engine_types.specs.declared.ActionKind.TheVariants.{StopContainer, StopKept, StartSlot}
use Rattle.engine_types.specs.declared.Declared.{Declared}
use Rattle.engine_types.specs.declared.Listed.{Listed}
use Rattle.engine_types.specs.declared.Seen.{Seen}
use Rattle.engine_types.specs.declared.Slot.{Slot}
use Rattle.plan_core.specs.Finding.{slot_seen, slot_text_at}
use Rattle.plan_core.specs.Keeping.{is_slots_at}
use Rattle.run_model.specs.EngineRules.{Among}
use Rattle.run_model.specs.Labels.{is_of_slot}
use Rattle.run_model.specs.Numbers.{places}
use Rattle.run_model.specs.Plans.{Basis, basis_of, is_start_of, kind_of, needed_by, planned, slot_at, up_aim}
use Rattle.run_model.specs.Rolling.{awaited_by, has_name_of_another, has_seen, is_added, is_rolled, is_same_slot}

-- a plan of `up` for what was seen
abbrev pub IsUpPlan : Declared → Seen → List Action → Type 0
IsUpPlan declared seen actions =
    (orphans : Bool) × (actions ≡ planned (basis_of declared seen (up_aim orphans)))

-- the kinds of actions
abbrev pub kinds_in : List Action → List ActionKind
kinds_in actions = map (λ action. action.kind) actions

-- whether a rolling update makes an action need the one at this place
abbrev pub is_added_at : Basis → List ActionKind → ActionKind → ℕ → Bool
is_added_at basis kinds kind b = option_map_or (is_added basis kind) (slice_get kinds b) false

-- what is declared, and what was seen
pub record Scene : Type 0 where
  pub declared : Declared
  pub seen : Seen

-- what a rolling update is of; it doesn't depend on whether orphans go
abbrev pub rolling : Scene → Basis
rolling scene = basis_of scene.declared scene.seen (up_aim false)

-- what needs are added to: what is declared, what was seen, and the actions
pub record Given : Type 0 where
  pub scene : Scene
  pub actions : List Action

-- what the rolling update of actions is of
abbrev pub rolled_basis : Given → Basis
rolled_basis given = rolling given.scene

-- the numbers of these are those of the actions that a rolling update makes this kind of action need
abbrev pub AreAdded : Given → ActionKind → List ℕ → Type 0
AreAdded given kind numbers =
    (b : ℕ)
    → Among numbers b ↔ (is_added_at (rolled_basis given) (kinds_in given.actions) kind b ≡ true)

-- an action with what it needs by the plan
abbrev pub needing : Given → Action → Action
needing given action = record {
  kind = action.kind;
  needs = needed_by (rolled_basis given) (kinds_in given.actions) action.kind;
}

-- an action with what it needs in a run
abbrev pub awaiting : Given → Action → Action
awaiting given action = record {
  kind = action.kind;
  needs = awaited_by (rolled_basis given) (kinds_in given.actions) action.kind;
}

-- each of the actions has its needs by the plan
abbrev pub HasNeeds : Given → Type 0
HasNeeds given = given.actions ≡ map (needing given) given.actions

-- whether the container at this place is a slot's, and this holds of it
abbrev pub is_seen_at : Scene → Slot → (Listed → Bool) → ℕ → Bool
is_seen_at scene slot holds c =
    option_map_or (λ row. is_of_slot scene.declared.project slot row.labels && holds row)
    (slice_get scene.seen.containers c) false

-- whether the slot with this number is another one, and a container has its name
abbrev pub is_other_at : Declared → Slot → Listed → ℕ → Bool
is_other_at declared slot row s =
    option_map_or (λ other. not (is_same_slot slot other) && bytes_eq row.name other.name)
    (slot_at declared s) false

-- whether a container of a slot was seen that has another slot's name
abbrev pub strays : Scene → Slot → Bool
strays scene slot =
    has_seen scene.declared scene.seen slot (has_name_of_another scene.declared slot)

-- the services of the slots of which such a container was seen
abbrev pub stray_services : Scene → List (List ℕ)
stray_services scene =
    map (λ slot. slot.service) (filter (strays scene) scene.declared.slots)

-- whether the slot with this number is rolled
abbrev pub is_rolled_at : Scene → ℕ → Bool
is_rolled_at scene s = option_map_or (is_rolled (rolling scene)) (slot_at scene.declared s) false

-- whether the slot with this number waits for the one with that number
abbrev pub waits_at : Scene → ℕ → ℕ → Bool
waits_at scene s t = is_added (rolling scene) (StopKept s) (StartSlot t)

-- for each slot the number of the one for which it waits, if any
abbrev pub AreWaited : Scene → List (Option ℕ) → Type 0
AreWaited scene waited =
    (s t : ℕ) → (slice_get waited s ≡ Some (Some t)) ↔ (waits_at scene s t ≡ true)

-- the text under which a stop of a container or a start of a slot is found: that of the slot; empty for other actions
abbrev pub step_text_of : Scene → ActionKind → List ℕ
step_text_of scene (StopContainer c) = slot_seen scene.seen c
step_text_of scene (StartSlot s) = slot_text_at scene.declared s
step_text_of scene _ = []

-- the same of an action
abbrev pub step_text : Scene → Action → List ℕ
step_text scene action = step_text_of scene action.kind

-- whether the action at this place starts the slot with this number
abbrev pub starts_at : List Action → ℕ → ℕ → Bool
starts_at actions s b = is_start_of s (kind_of actions b)

-- the places of the actions that start the slot with this number
abbrev pub starts_of : List Action → ℕ → List ℕ
starts_of actions s = filter (starts_at actions s) (places actions)

-- whether an action stops a container of a slot
abbrev pub stops_its : Scene → Slot → Option ActionKind → Bool
stops_its scene slot (Some (StopContainer c)) = is_slots_at scene.declared scene.seen slot c
stops_its scene slot _ = false

-- whether the action at this place stops a container of a slot
abbrev pub stops_at : Given → Slot → ℕ → Bool
stops_at given slot b = stops_its given.scene slot (kind_of given.actions b)

-- the places of the actions that stop a container of a slot
abbrev pub stops_of : Given → Slot → List ℕ
stops_of given slot = filter (stops_at given slot) (places given.actions)

-- whether the container at this place is of the slot with this number
abbrev pub owns : Scene → ℕ → ℕ → Bool
owns scene c s =
    option_map_or (λ slot. is_slots_at scene.declared scene.seen slot c)
    (slot_at scene.declared s) false

-- the places of the actions that the stop of a slot's kept container is made to need
abbrev pub starts_before : Given → ℕ → List ℕ
starts_before given s =
    filter (is_added_at (rolled_basis given) (kinds_in given.actions) (StopKept s))
    (places given.actions)
