-- How an Engine in memory that settles changes by itself: at a look at one of its containers, which is a
-- `GET /containers/{id}/json` of the Docker Engine API.
use Rattle.std.specs.Prelude.{ℕ, Bool, false, not, if◌then◌else◌, ◌&&◌, List, Option, Some, None, is_some, pos}
use Rattle.std.specs.List.{list_any}
use Rattle.std.specs.Option.{option_map, option_map_or}
use Rattle.std.specs.Str.{bytes_eq}
use Rattle.engine_types.specs.declared.ContainerRow.{ContainerRow}
use Rattle.engine_types.specs.declared.Engine.{Engine}
use Rattle.engine_types.specs.declared.Health.{Health}
use Rattle.engine_types.specs.declared.Request.{Request}
use Rattle.memory_engine.specs.declared.script.Change.{Change}
use Rattle.memory_engine.specs.declared.script.Tick.{Tick}
use Rattle.memory_engine.specs.Serving.{with_container}
use Rattle.memory_engine.specs.Ticking.{changed_row, is_running}
use Rattle.run_model.specs.EngineRules.{container_at}
use Rattle.tree_base.specs.Entries.{value_at, with_entry}

-- whether a script speaks of the container with a name: some tick of it is that container's
abbrev pub is_scripted : List Tick → List ℕ → Bool
is_scripted script name = list_any (λ tick. bytes_eq name tick.container) script

-- whether a container settles where it is looked at: it runs, and no script speaks of it
abbrev pub settles : List Tick → ContainerRow → Bool
settles script row = is_running row.report.state && not (is_scripted script row.name)

-- the change of a container that settles: one with a health check becomes healthy, and one without exits with 0, from the second
-- look on
abbrev pub change_at : Bool → Health → Option Change
change_at again Health.Healthy = None
change_at again Health.Absent = if again then Some (Change.Exit (pos 0)) else None
change_at again _ = Some (Change.Health Health.Healthy)

-- what a container that is looked at does by itself: one that settles makes its change
abbrev pub change_of : Bool → List Tick → ContainerRow → Option Change
change_of again script row =
    if settles script row then change_at again row.report.health else None

-- the Engine in which the container with an id has made a change, or none
abbrev pub changed_by : Engine → List ℕ → Option Change → Engine
changed_by engine id change =
    option_map_or (λ c. with_container engine id (changed_row c)) change engine

-- the Engine in which the container with an id has settled, behind looks at containers with these ids
abbrev pub settled_at : List (List ℕ × Unit {0}) → List Tick → Engine → List ℕ → Engine
settled_at looked script engine id =
    option_map_or
    (λ row. changed_by engine id (change_of (is_some (value_at looked id)) script row))
    (container_at engine id) engine

-- the ids of the containers that were looked at, after a look: one that settles is among them
abbrev pub looked_after : List (List ℕ × Unit {0}) → List Tick → Engine → List ℕ
    → List (List ℕ × Unit {0})
looked_after looked script engine id =
    if option_map_or (settles script) (container_at engine id) false then with_entry looked id tt
    else looked

-- the Engine that answers a request: where it settles and a container is looked at, this has settled first
abbrev pub settled : Option (List (List ℕ × Unit {0})) → List Tick → Engine → Request → Engine
settled looked script engine (Request.Inspect id) =
    option_map_or (λ l. settled_at l script engine id) looked engine
settled looked script engine request = engine

-- what an Engine that settles knows of looks, after a request
abbrev pub looks_after : Option (List (List ℕ × Unit {0})) → List Tick → Engine → Request
    → Option (List (List ℕ × Unit {0}))
looks_after looked script engine (Request.Inspect id) =
    option_map (λ l. looked_after l script engine id) looked
looks_after looked script engine request = looked
