-- What the hand of a target is when it is made.
use Rattle.std.specs.Prelude.{◌≡◌, ℕ, List, [], Option, None}
use Rattle.engine_types.specs.declared.Engine.{Engine}
use Rattle.memory_engine.specs.declared.catalogue.Catalogue.{Catalogue}
use Rattle.memory_engine.specs.declared.state.MemoryEngine.{MemoryEngine}
use Rattle.outside_api.specs.declared.plug.Target.{Target}

-- the Engine that the plug tells: none
abbrev pub no_engine : Option Engine
no_engine = None

-- an Engine in memory holds nothing and can pull every image, has no script and no faults, and answered nothing yet
pub record IsFresh (memory : MemoryEngine) : Type 0 where
  pub containers : memory.engine.containers ≡ []
  pub networks : memory.engine.networks ≡ []
  pub volumes : memory.engine.volumes ≡ []
  pub images : memory.engine.images ≡ []
  pub next : memory.engine.next ≡ 0
  pub script : memory.script ≡ []
  pub lost : memory.faults.lost ≡ []
  pub unsent : memory.faults.unsent ≡ []
  pub asked_from : memory.faults.asked_from ≡ None
  pub made : memory.made ≡ 0
  pub catalogue : memory.catalogue ≡ Catalogue.All

-- a hand over a wire to this path, which looks for this stop file, speaks with the Engine of a target: the target is a socket,
-- and path and stop file are those that were given
abbrev pub IsSocketHand : Target → Option (List ℕ) → List ℕ → Option (List ℕ) → Type 0
IsSocketHand (Target.Socket path) stop_file wire_path wire_file = (wire_path ≡ path) × (wire_file ≡ stop_file)
IsSocketHand Target.InMemory stop_file wire_path wire_file = ⊥
