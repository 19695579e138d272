-- What an Engine holds, row by row: the tests that together decide whether it is exactly what is declared.
use Rattle.std.specs.Prelude.{ℕ, Bool, false, not, ◌&&◌, ◌||◌, ◌==◌, List, [], ◌∷◌, Option, Some, None, count_by, filter}
use Rattle.std.specs.List.{list_any}
use Rattle.std.specs.Option.{option_map_or}
use Rattle.std.specs.Str.{bytes_eq}
use Rattle.tree_base.specs.declared.Var.{Var}
use Rattle.engine_types.specs.declared.ContainerRow.{ContainerRow}
use Rattle.engine_types.specs.declared.Declared.{Declared}
use Rattle.engine_types.specs.declared.Engine.{Engine}
use Rattle.engine_types.specs.declared.NetRow.{NetRow}
use Rattle.engine_types.specs.declared.Slot.{Slot}
use Rattle.run_model.specs.EngineRules.{is_of_project}
use Rattle.run_model.specs.Exact.{agrees_in, is_attached}
use Rattle.run_model.specs.Labels.{is_of_slot, is_orphan}
use Rattle.tree_base.specs.ByteOrder.{first_of_each}

-- the containers that look-ups by id find: of several rows with one id the first
abbrev pub found_containers : Engine → List ContainerRow
found_containers engine = first_of_each (λ row. row.id) engine.containers

-- the networks that look-ups by id find: of several rows with one id the first
abbrev pub found_networks : Engine → List NetRow
found_networks engine = first_of_each (λ row. row.id) engine.networks

-- the element of a list of one
abbrev pub only_of : {X : Type 0} → List X → Option X
only_of [] = None
only_of (x ∷ []) = Some x
only_of (x ∷ y ∷ rest) = None

-- the container of a slot, where exactly one of these is the slot's
abbrev pub only_container : Declared → List ContainerRow → Slot → Option ContainerRow
only_container declared rows slot =
    only_of (filter (λ row. is_of_slot declared.project slot row.labels) rows)

-- whether a container agrees with a slot and is on the slot's networks
abbrev pub fits : Declared → Engine → Slot → ContainerRow → Bool
fits declared engine slot row =
    is_attached declared engine slot row && agrees_in declared engine slot row

-- whether exactly one of these containers is the slot's, and fits it
abbrev pub holds_slot : Declared → Engine → List ContainerRow → Slot → Bool
holds_slot declared engine rows slot =
    option_map_or (fits declared engine slot) (only_container declared rows slot) false

-- whether exactly one of these networks has the name
abbrev pub holds_network : List NetRow → List ℕ → Bool
holds_network rows name = count_by (λ row. bytes_eq name row.name) rows == 1

-- whether a container with these labels may be there: it isn't the project's, or is some slot's, or is an orphan where these weren't asked for
abbrev pub may_be_there : Declared → Bool → List Var → Bool
may_be_there declared orphans labels =
    not (is_of_project declared.project labels)
    || (list_any (λ slot. is_of_slot declared.project slot labels) declared.slots
    || (not orphans && is_orphan declared labels))
