-- When an Engine holds exactly what a project declares, and when all of it is gone.
use Rattle.std.specs.Prelude.{◌≡◌, ℕ, Bool, true, false, not, ◌&&◌, ◌||◌, List, Some}
use Rattle.std.specs.List.{list_any, list_all}
use Rattle.engine_types.specs.declared.ContainerRow.{ContainerRow}
use Rattle.engine_types.specs.declared.Declared.{Declared}
use Rattle.engine_types.specs.declared.Engine.{Engine}
use Rattle.engine_types.specs.declared.NetworkSpec.{NetworkSpec}
use Rattle.engine_types.specs.declared.Slot.{Slot}
use Rattle.engine_types.specs.declared.VolumeSpec.{VolumeSpec}
use Rattle.run_model.specs.EngineRules.{Among, container_at, has_volume, image_at, is_of_project, network_has_name}
use Rattle.run_model.specs.Labels.{agrees, has_declared_service, is_of_slot, is_orphan}
use Rattle.run_model.specs.Plans.{network_name}

-- whether a container agrees with a slot, by the Engine's images
abbrev pub agrees_in : Declared → Engine → Slot → ContainerRow → Bool
agrees_in declared engine slot row =
    agrees declared.project slot
    (image_at engine slot.image) row.labels row.image_id row.report.state

-- whether a container is on every network that a slot attaches to
abbrev pub is_attached : Declared → Engine → Slot → ContainerRow → Bool
is_attached declared engine slot row =
    list_all (λ attach. list_any
    (network_has_name engine (network_name declared attach)) row.networks) slot.attach

-- exactly one container is of the slot; it agrees with it and is on its networks
pub record IsExactSlot (declared : Declared) (engine : Engine) (slot : Slot) : Type 0 where
  pub id : List ℕ
  pub row : ContainerRow
  pub is_there : container_at engine id ≡ Some row
  pub of_slot : agrees_in declared engine slot row ≡ true
  pub attached : is_attached declared engine slot row ≡ true
  pub only : (i : List ℕ) (other : ContainerRow) → container_at engine i ≡ Some other
      → is_of_slot declared.project slot other.labels ≡ true → i ≡ id

-- exactly one network has the name
pub record IsExactNetwork (engine : Engine) (name : List ℕ) : Type 0 where
  pub id : List ℕ
  pub is_there : network_has_name engine name id ≡ true
  pub only : (i : List ℕ) → network_has_name engine name i ≡ true → i ≡ id

-- an Engine holds exactly what is declared: each slot's container once, and each declared network and volume; no other
-- container is of the project, but for orphans where these weren't asked for
pub record IsExact (declared : Declared) (engine : Engine) (orphans : Bool) : Type 0 where
  pub slots : (slot : Slot) → Among declared.slots slot → IsExactSlot declared engine slot
  pub networks : (network : NetworkSpec) → Among declared.networks network
      → IsExactNetwork engine network.name
  pub volumes : (volume : VolumeSpec) → Among declared.volumes volume
      → has_volume engine volume.name ≡ true
  pub others : (id : List ℕ) (row : ContainerRow) → container_at engine id ≡ Some row
      → is_of_project declared.project row.labels ≡ true
      → (list_any (λ slot. is_of_slot declared.project slot row.labels) declared.slots
      || (not orphans && is_orphan declared row.labels)) ≡ true

-- all that is declared is gone: no container of the project has a declared service, or none is there at all where orphans were
-- asked for; no declared network that isn't external is there; and, where volumes were asked for, no such volume
pub record IsGone (declared : Declared) (engine : Engine) (orphans volumes : Bool) : Type 0 where
  pub containers : (id : List ℕ) (row : ContainerRow) → container_at engine id ≡ Some row
      → is_of_project declared.project row.labels ≡ true
      → (orphans || has_declared_service declared row.labels) ≡ false
  pub networks : (network : NetworkSpec) → Among declared.networks network
      → network.external ≡ false
      → (id : List ℕ) → network_has_name engine network.name id ≡ false
  pub no_volumes : volumes ≡ true → (volume : VolumeSpec) → Among declared.volumes volume
      → volume.external ≡ false
      → has_volume engine volume.name ≡ false
