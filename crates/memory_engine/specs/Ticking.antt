-- How a change of the script changes an Engine in memory.
use Rattle.std.specs.Prelude.{Bool, true, false, if◌then◌else◌, List, [], ◌∷◌}
use Rattle.std.specs.Str.{bytes_eq}
use Rattle.engine_types.specs.declared.ContainerRow.{ContainerRow}
use Rattle.engine_types.specs.declared.ContainerState.{ContainerState}
use Rattle.engine_types.specs.declared.Engine.{Engine}
use Rattle.engine_types.specs.declared.Report.{Report}
use Rattle.memory_engine.specs.declared.script.Change.{Change}
use Rattle.memory_engine.specs.declared.script.Tick.{Tick}
use Rattle.memory_engine.specs.Serving.{with_first}

-- whether a container runs
abbrev pub is_running : ContainerState → Bool
is_running ContainerState.Running = true
is_running _ = false

-- the report after a change: a container exits with a code, or has another health
abbrev pub changed_report : Change → Report → Report
changed_report (Change.Exit code) report = record report { state = ContainerState.Exited; exit_code = code }
changed_report (Change.Health health) report = record report { health = health }

-- the container after a change, which only a running one takes
abbrev pub changed_row : Change → ContainerRow → ContainerRow
changed_row change row = if is_running row.report.state then record row { report = changed_report change row.report } else row

-- the Engine after a tick, which names its container by name
abbrev pub ticked_by : Engine → Tick → Engine
ticked_by engine tick = record engine { containers = with_first (λ row. bytes_eq tick.container row.name) (changed_row tick.change) engine.containers }

-- the Engine after the first tick of a script, where there is one
abbrev pub ticked : Engine → List Tick → Engine
ticked engine [] = engine
ticked engine (tick ∷ script) = ticked_by engine tick

-- the script without its first tick
abbrev pub later : List Tick → List Tick
later [] = []
later (tick ∷ script) = script
