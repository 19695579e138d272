-- What an Engine has of what was seen, in so far as it keeps it by itself.
use Rattle.std.specs.Prelude.{◌≡◌, ◌⊎◌, true, List, [], ℕ, None, Some, map}
use Rattle.std.specs.List.{IsDistinct, list_any}
use Rattle.std.specs.Str.{bytes_eq}
use Rattle.engine_types.specs.declared.ContainerRow.{ContainerRow}
use Rattle.engine_types.specs.declared.Declared.{Declared}
use Rattle.engine_types.specs.declared.Engine.{Engine}
use Rattle.engine_types.specs.declared.Listed.{Listed}
use Rattle.engine_types.specs.declared.Purpose.{Purpose}
use Rattle.engine_types.specs.declared.Seen.{Seen}
use Rattle.engine_types.specs.declared.Slot.{Slot}
use Rattle.run_model.specs.EngineRules.{Among, ListsNetworks, ListsVolumes, container_at, image_at, is_of_project, network_has_name}
use Rattle.run_model.specs.Labels.{is_lost_state}
use Rattle.run_model.specs.Observation.{is_up, listing_fault}
use Rattle.run_model.specs.Plans.{seen_image}

-- a container is the listed one: all but its state is as it was listed, and it is on its way out exactly where it was then
pub record Resembles (engine : Engine) (row : ContainerRow) (listed : Listed) : Type 0 where
  pub id : listed.id ≡ row.id
  pub labels : listed.labels ≡ row.labels
  pub image_id : listed.image_id ≡ row.image_id
  pub lost : is_lost_state listed.state ≡ is_lost_state row.report.state
  pub networks : (n : List ℕ)
      → list_any (bytes_eq n) listed.networks ≡ list_any (network_has_name engine n) row.networks

-- an Engine has what was seen of it for a purpose: the project's containers, each once and no other; the networks and the volumes
-- where these were listed; for `up` the id of each slot's image; and there was no fault in what was listed
pub record IsSightOf (declared : Declared) (purpose : Purpose) (seen : Seen)
    (engine : Engine) : Type 0 where
  pub ids : IsDistinct bytes_eq (map (λ listed. listed.id) seen.containers)
  pub shown : (listed : Listed) → Among seen.containers listed → (row : ContainerRow)
      × (container_at engine listed.id ≡ Some row)
      × (is_of_project declared.project row.labels ≡ true) × Resembles engine row listed
  pub all : (id : List ℕ) (row : ContainerRow) → container_at engine id ≡ Some row
      → is_of_project declared.project row.labels ≡ true
      → (listed : Listed) × Among seen.containers listed × (listed.id ≡ id)
      × Resembles engine row listed
  pub networks : (declared.networks ≡ []) ⊎ ListsNetworks engine seen.networks
  pub volumes : (declared.volumes ≡ []) ⊎ ListsVolumes engine seen.volumes
  pub images : is_up purpose ≡ true → (slot : Slot) → Among declared.slots slot
      → (id : List ℕ) × (seen_image seen slot ≡ Some id) × (image_at engine slot.image ≡ Some id)
  pub sound : listing_fault declared purpose seen ≡ None
