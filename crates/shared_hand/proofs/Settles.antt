-- How a look lets a container settle, and that this is a change of the Engine's own.
use Rattle.std.proofs.Common.{◌≡◌, ℕ, Bool, true, List, Option, Some, None, refl}
use Rattle.std.specs.Prelude.{is_some}
use Rattle.std.specs.Option.{option_map_or}
use Rattle.engine_types.specs.declared.ContainerRow.{ContainerRow}
use Rattle.engine_types.specs.declared.Engine.{Engine}
use Rattle.engine_types.specs.declared.Request.{Request}
use Rattle.memory_engine.specs.declared.script.Change.{Change}
use Rattle.memory_engine.specs.declared.script.Tick.{Tick}
use Rattle.memory_engine.specs.Keeping.{IsKept}
use Rattle.memory_engine.proofs.Drifting.{own_drifts}
use Rattle.run_model.specs.EngineRules.{Drifts, container_at}
use Rattle.tree_base.specs.Entries.{value_at, with_entry}
use Rattle.shared_hand.specs.Settling.{change_at, change_of, changed_by, looked_after, looks_after, settled, settled_at, settles}

-- a container that settles makes its change
pub settles_at : (looked : List (List ℕ × Unit {0})) (script : List Tick) (engine : Engine) (id : List ℕ) (row : ContainerRow) (again : Bool) (own : Option Change)
    → container_at engine id ≡ Some row → settles script row ≡ true → again ≡ is_some (value_at looked id)
    → own ≡ change_at again row.report.health → changed_by engine id own ≡ settled_at looked script engine id
settles_at looked script engine id row again own found may before is = rw (found, may, is, before) refl

-- and its look is noted
pub notes_at : (looked : List (List ℕ × Unit {0})) (script : List Tick) (engine : Engine) (id : List ℕ) (row : ContainerRow)
    → container_at engine id ≡ Some row → settles script row ≡ true → with_entry looked id tt ≡ looked_after looked script engine id
notes_at looked script engine id row found may = rw (found, may) refl

module _ (looked : Option (List (List ℕ × Unit {0}))) (script : List Tick) (engine : Engine) where
  -- a request that looks at no container lets none settle
  pub looks_nowhere : (request : Request) → ((id : List ℕ) → request ≡ Request.Inspect id → ⊥) → engine ≡ settled looked script engine request
  looks_nowhere (Request.Inspect id) other = absurd (other id refl)
  looks_nowhere (Request.ListContainers project) other = refl
  looks_nowhere (Request.Logs id) other = refl
  looks_nowhere (Request.Create name spec) other = refl
  looks_nowhere (Request.Start id) other = refl
  looks_nowhere (Request.Stop id seconds) other = refl
  looks_nowhere (Request.Remove id) other = refl
  looks_nowhere Request.ListNetworks other = refl
  looks_nowhere (Request.MakeNetwork spec) other = refl
  looks_nowhere (Request.Connect network container aliases) other = refl
  looks_nowhere (Request.RemoveNetwork id) other = refl
  looks_nowhere Request.ListVolumes other = refl
  looks_nowhere (Request.MakeVolume spec) other = refl
  looks_nowhere (Request.RemoveVolume name) other = refl
  looks_nowhere (Request.Image name) other = refl
  looks_nowhere (Request.Pull name) other = refl

  -- and is no look
  pub notes_nothing : (request : Request) → ((id : List ℕ) → request ≡ Request.Inspect id → ⊥) → looked ≡ looks_after looked script engine request
  notes_nothing (Request.Inspect id) other = absurd (other id refl)
  notes_nothing (Request.ListContainers project) other = refl
  notes_nothing (Request.Logs id) other = refl
  notes_nothing (Request.Create name spec) other = refl
  notes_nothing (Request.Start id) other = refl
  notes_nothing (Request.Stop id seconds) other = refl
  notes_nothing (Request.Remove id) other = refl
  notes_nothing Request.ListNetworks other = refl
  notes_nothing (Request.MakeNetwork spec) other = refl
  notes_nothing (Request.Connect network container aliases) other = refl
  notes_nothing (Request.RemoveNetwork id) other = refl
  notes_nothing Request.ListVolumes other = refl
  notes_nothing (Request.MakeVolume spec) other = refl
  notes_nothing (Request.RemoveVolume name) other = refl
  notes_nothing (Request.Image name) other = refl
  notes_nothing (Request.Pull name) other = refl

change_drifts : (engine : Engine) (id : List ℕ) (change : Option Change) → IsKept engine → Drifts engine (changed_by engine id change)
change_drifts engine id None kept = (0, refl)
change_drifts engine id (Some change) kept = own_drifts engine id change kept

row_drifts : (again : Bool) (script : List Tick) (engine : Engine) (id : List ℕ) (found : Option ContainerRow) → IsKept engine
    → Drifts engine (option_map_or (λ row. changed_by engine id (change_of again script row)) found engine)
row_drifts again script engine id None kept = (0, refl)
row_drifts again script engine id (Some row) kept = change_drifts engine id (change_of again script row) kept

look_drifts : (looked : Option (List (List ℕ × Unit {0}))) (script : List Tick) (engine : Engine) (id : List ℕ) → IsKept engine
    → Drifts engine (settled looked script engine (Request.Inspect id))
look_drifts None script engine id kept = (0, refl)
look_drifts (Some looked) script engine id kept = row_drifts (is_some (value_at looked id)) script engine id (container_at engine id) kept

-- an Engine in memory settles by changes of its own
pub settled_drifts : (looked : Option (List (List ℕ × Unit {0}))) (script : List Tick) (engine : Engine) (request : Request) → IsKept engine
    → Drifts engine (settled looked script engine request)
settled_drifts looked script engine (Request.Inspect id) kept = look_drifts looked script engine id kept
settled_drifts looked script engine (Request.ListContainers project) kept = (0, refl)
settled_drifts looked script engine (Request.Logs id) kept = (0, refl)
settled_drifts looked script engine (Request.Create name spec) kept = (0, refl)
settled_drifts looked script engine (Request.Start id) kept = (0, refl)
settled_drifts looked script engine (Request.Stop id seconds) kept = (0, refl)
settled_drifts looked script engine (Request.Remove id) kept = (0, refl)
settled_drifts looked script engine Request.ListNetworks kept = (0, refl)
settled_drifts looked script engine (Request.MakeNetwork spec) kept = (0, refl)
settled_drifts looked script engine (Request.Connect network container aliases) kept = (0, refl)
settled_drifts looked script engine (Request.RemoveNetwork id) kept = (0, refl)
settled_drifts looked script engine Request.ListVolumes kept = (0, refl)
settled_drifts looked script engine (Request.MakeVolume spec) kept = (0, refl)
settled_drifts looked script engine (Request.RemoveVolume name) kept = (0, refl)
settled_drifts looked script engine (Request.Image name) kept = (0, refl)
settled_drifts looked script engine (Request.Pull name) kept = (0, refl)
