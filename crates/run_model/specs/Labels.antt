-- Which containers are a project's, which are orphans, and which a slot may keep: by the labels of Docker Compose.
use Rattle.std.specs.Prelude.{ℕ, Bool, true, false, not, if◌then◌else◌, ◌&&◌, List, Option, Some, None, decimal}
use Rattle.std.specs.List.{list_any}
use Rattle.std.specs.Str.{bytes_eq}
use Rattle.tree_base.specs.declared.Var.{Var}
use Rattle.engine_types.specs.Labels as the
use Rattle.engine_types.specs.declared.ContainerState.{ContainerState}
use Rattle.engine_types.specs.declared.Declared.{Declared}
use Rattle.engine_types.specs.declared.Slot.{Slot}
use Rattle.run_model.specs.EngineRules.{has_label, is_of_project}

-- whether the service label names a service
abbrev pub names_service : List ℕ → List Var → Bool
names_service service labels = has_label labels the.service_label service

-- whether the service label and the number label, as a text, name a slot
abbrev pub names_slot : Slot → List Var → Bool
names_slot slot labels =
    names_service slot.service labels && has_label labels the.number_label (decimal slot.number)

-- whether labels are those of a container of the project and of the slot
abbrev pub is_of_slot : List ℕ → Slot → List Var → Bool
is_of_slot project slot labels = is_of_project project labels && names_slot slot labels

-- whether the service label names a declared service
abbrev pub has_declared_service : Declared → List Var → Bool
has_declared_service declared labels =
    list_any (λ service. names_service service.key labels) declared.services

-- an orphan: a container of the project whose service label names no declared service
abbrev pub is_orphan : Declared → List Var → Bool
is_orphan declared labels =
    is_of_project declared.project labels && not (has_declared_service declared labels)

-- whether a container is on its way out, or couldn't be removed
abbrev pub is_lost_state : ContainerState → Bool
is_lost_state ContainerState.Dead = true
is_lost_state ContainerState.Removing = true
is_lost_state _ = false

-- the hash that a container of a slot has to have: the slot's hash where the container's own has the version 2, else the old one
abbrev pub hash_for : Slot → List Var → List ℕ
hash_for slot labels =
    if has_label labels the.version_label the.hash_version then slot.hash else slot.old_hash

-- whether a container agrees with a slot, whose image has this id: it is of the slot, has its hash and its image,
-- and isn't dead or being removed
abbrev pub agrees : List ℕ → Slot → Option (List ℕ) → List Var → List ℕ → ContainerState → Bool
agrees project slot None labels image_id state = false
agrees project slot (Some image) labels image_id state =
    is_of_slot project slot labels && has_label labels the.hash_label (hash_for slot labels)
    && bytes_eq image image_id
    && not (is_lost_state state)
