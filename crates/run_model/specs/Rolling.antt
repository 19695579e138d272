-- Rolling updates, `deploy.update_config` of the Compose Specification: which slots `up` replaces a few at a time, what the actions of
-- a run need for that beside the plan's own needs, and so the actions of a run.
use Rattle.std.specs.Prelude.{ℕ, ◌+◌, Bool, true, false, not, ◌&&◌, ◌||◌, ◌==◌, nat_lt, List, [], Option, Some, None, filter, find, map, length, slice_get, option_and_then, is_some}
use Rattle.std.specs.List.{list_any}
use Rattle.std.specs.Option.{option_map_or}
use Rattle.std.specs.Str.{bytes_eq}
use Rattle.engine_types.specs.declared.Action.{Action}
use Rattle.engine_types.specs.declared.ActionKind.{ActionKind}
use Rattle.engine_types.specs.declared.ActionKind.TheVariants.{StopContainer, StopKept, StartSlot}
use Rattle.engine_types.specs.declared.Declared.{Declared}
use Rattle.engine_types.specs.declared.Listed.{Listed}
use Rattle.engine_types.specs.declared.Seen.{Seen}
use Rattle.engine_types.specs.declared.Slot.{Slot}
use Rattle.run_model.specs.EngineRules.{is_live}
use Rattle.run_model.specs.Labels.{is_of_slot}
use Rattle.run_model.specs.Numbers.{places}
use Rattle.run_model.specs.Plans.{Basis, is_needed_by, is_unstarted, planned_kinds, slot_at}

-- how many slots of a slot's service are replaced at a time: `parallelism` of the Compose Specification; none where all are at once
abbrev pub roll_of : Declared → Slot → Option ℕ
roll_of declared slot =
    option_and_then (λ service. service.roll)
    (find (λ service. bytes_eq service.key slot.service) declared.services)

-- whether a container of a slot was seen of which this holds
abbrev pub has_seen : Declared → Seen → Slot → (Listed → Bool) → Bool
has_seen declared seen slot holds =
    list_any (λ row. is_of_slot declared.project slot row.labels && holds row) seen.containers

-- whether two slots are the same one: of one service, with one number
abbrev pub is_same_slot : Slot → Slot → Bool
is_same_slot slot other = bytes_eq slot.service other.service && (slot.number == other.number)

-- whether a container has the name of another slot than this one
abbrev pub has_name_of_another : Declared → Slot → Listed → Bool
has_name_of_another declared slot row =
    list_any (λ other. not (is_same_slot slot other) && bytes_eq row.name other.name) declared.slots

-- whether a service is crossed: a container of one of its slots was seen that has the name of another slot
abbrev pub is_crossed : Basis → List ℕ → Bool
is_crossed basis key =
    list_any (λ slot. bytes_eq slot.service key
    && has_seen basis.declared basis.seen slot (has_name_of_another basis.declared slot))
    basis.declared.slots

-- whether a slot is rolled: its service says how many are replaced at a time and isn't crossed, a live container of the slot was
-- seen, and the slot's container is to be started
abbrev pub is_rolled : Basis → Slot → Bool
is_rolled basis slot =
    is_some (roll_of basis.declared slot) && not (is_crossed basis slot.service)
    && has_seen basis.declared basis.seen slot (λ row. is_live row.state) && is_unstarted basis slot

-- how many rolled slots of its service stand before a slot, by number
abbrev pub rolled_before : Basis → Slot → ℕ
rolled_before basis slot = length (filter is_earlier basis.declared.slots)
  where
    is_earlier : Slot → Bool
    is_earlier other =
        bytes_eq other.service slot.service && nat_lt other.number slot.number
        && is_rolled basis other

-- whether a rolled slot waits for the start of another one of its service: of the rolled ones it stands as many places after
-- the other as are replaced at a time
abbrev pub waits_for : Basis → Slot → Slot → Bool
waits_for basis slot other =
    is_rolled basis slot && is_rolled basis other && bytes_eq slot.service other.service
    && option_map_or (λ count. rolled_before basis other + count == rolled_before basis slot)
    (roll_of basis.declared slot) false

-- whether a live container is of a slot that waits for this one
abbrev pub is_held_back : Basis → Listed → Slot → Bool
is_held_back basis row other =
    is_live row.state
    && list_any (λ slot. is_of_slot basis.declared.project slot row.labels
    && waits_for basis slot other) basis.declared.slots

-- whether a rolling update makes an action need another one: the stop of a live container of a rolled slot needs the start of the
-- slot that this one waits for, and so does the stop of its kept container; the start of a rolled slot needs the stop of every
-- container of the slot
abbrev pub is_added : Basis → ActionKind → ActionKind → Bool
is_added basis (StopContainer c) (StartSlot t) =
    option_map_or (λ row. option_map_or (is_held_back basis row) (slot_at basis.declared t) false)
    (slice_get basis.seen.containers c) false
is_added basis (StopKept s) (StartSlot t) =
    option_map_or (λ slot. option_map_or (waits_for basis slot) (slot_at basis.declared t) false)
    (slot_at basis.declared s) false
is_added basis (StartSlot s) (StopContainer c) =
    option_map_or (λ slot. is_rolled basis slot && is_its slot) (slot_at basis.declared s) false
  where
    is_its : Slot → Bool
    is_its slot =
        option_map_or (λ row. is_of_slot basis.declared.project slot row.labels)
        (slice_get basis.seen.containers c) false
is_added _ _ _ = false

-- whether an action of a run needs another one to have ended well: by the plan, or by a rolling update
abbrev pub is_awaited : Basis → ActionKind → ActionKind → Bool
is_awaited basis kind other = is_needed_by basis kind other || is_added basis kind other

-- the numbers of the actions that an action of a run needs
abbrev pub awaited_by : Basis → List ActionKind → ActionKind → List ℕ
awaited_by basis kinds kind =
    filter (λ b. option_map_or (is_awaited basis kind) (slice_get kinds b) false) (places kinds)

-- the actions of a run: those of the plan, with the needs that a rolling update adds
abbrev pub run_actions : Basis → List Action
run_actions basis =
    map (λ kind. record { kind = kind; needs = awaited_by basis (planned_kinds basis) kind })
    (planned_kinds basis)
