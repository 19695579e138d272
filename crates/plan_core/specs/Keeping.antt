-- Where the containers that slots keep are looked for, and found.
use Rattle.std.specs.Prelude.{ℕ, Bool, false, ◌&&◌, List, [], ◌∷◌, Option, map, slice_get}
use Rattle.std.specs.List.{list_any}
use Rattle.std.specs.Option.{option_and_then, option_map_or}
use Rattle.engine_types.specs.declared.Declared.{Declared}
use Rattle.engine_types.specs.declared.DeclaredService.{DeclaredService}
use Rattle.engine_types.specs.declared.Listed.{Listed}
use Rattle.engine_types.specs.declared.Seen.{Seen}
use Rattle.engine_types.specs.declared.Slot.{Slot}
use Rattle.run_model.specs.Labels.{is_of_slot, names_service}
use Rattle.run_model.specs.Plans.{agrees_seen}
use Rattle.plan_core.specs.Finding.{container_text}
use Rattle.plan_core.specs.Index.{places_under}

-- the places of texts under these
abbrev pub texts_under : List (List ℕ) → List (List ℕ × ℕ)
texts_under texts = places_under (λ text. text ∷ []) 0 texts

-- the places of the containers that were seen, under the texts of the slots that their labels name
abbrev pub containers_under : Seen → List (List ℕ × ℕ)
containers_under seen = texts_under (map container_text seen.containers)

-- whether the container at this place agrees with a slot
abbrev pub agrees_at : Declared → Seen → Slot → ℕ → Bool
agrees_at declared seen slot c =
    option_map_or (agrees_seen declared seen slot) (slice_get seen.containers c) false

-- whether the container at this place is a slot's
abbrev pub is_slots_at : Declared → Seen → Slot → ℕ → Bool
is_slots_at declared seen slot c =
    option_map_or (λ row. is_of_slot declared.project slot row.labels)
    (slice_get seen.containers c) false

-- the id of the container at a place, if any
abbrev pub id_in : Seen → Option ℕ → List (List ℕ)
id_in seen place =
    option_map_or (λ row. row.id ∷ []) (option_and_then (slice_get seen.containers) place) []

-- the numbers of the slots, under the ids of the containers that they keep at these places
abbrev pub kept_under : Seen → List (Option ℕ) → List (List ℕ × ℕ)
kept_under seen kept = places_under (id_in seen) 0 kept

-- the numbers of the services, under their keys
abbrev pub services_under : Declared → List (List ℕ × ℕ)
services_under declared = places_under (λ service. service.key ∷ []) 0 declared.services

-- whether a service is the one that a container's labels name, and depends on the one that another's name
abbrev pub depends_by : Listed → Listed → DeclaredService → Bool
depends_by row other service =
    names_service service.key row.labels
    && list_any (λ key. names_service key other.labels) service.depends_on

-- the same of the service with this number
abbrev pub depends_by_at : Declared → Listed → Listed → ℕ → Bool
depends_by_at declared row other n =
    option_map_or (depends_by row other) (slice_get declared.services n) false
