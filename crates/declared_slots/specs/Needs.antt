-- What slots wait for, by the places of the slots among all (Compose Specification, depends_on).
use Rattle.std.specs.Prelude.{ℕ, ◌+◌, ◌*◌, ◌^◌, ◌-◌, List, [], ◌∷◌, flat_map, map, min, unwrap_or}
use Rattle.std.specs.List.{range_with_len, sum_by}
use Rattle.tree_base.specs.Entries.{value_at}
use Rattle.attribute_types.specs.declared.rows.Dependency.{Dependency}
use Rattle.attribute_types.specs.declared.rows.DependencyCondition.{DependencyCondition}
use Rattle.engine_types.specs.declared.declared.Condition.{Condition}
use Rattle.engine_types.specs.declared.declared.Need.{Need}
use Rattle.service_graph.specs.Cycles.{dependencies_of}
use Rattle.typed_project.specs.declared.service.Service.{Service}
use Rattle.declared_slots.specs.declared.counts.Range.{Range}

-- the condition of a need
abbrev pub condition_of : DependencyCondition → Condition
condition_of DependencyCondition.Started = Condition.Started
condition_of DependencyCondition.Healthy = Condition.Healthy
condition_of DependencyCondition.Completed = Condition.Completed

-- the slots of each service by its key
abbrev pub Ranges : Type 0
Ranges = List (List ℕ × Range)

-- the slots of the service with a key; a service that isn't there has none
abbrev pub range_of : Ranges → List ℕ → Range
range_of ranges key = unwrap_or (value_at ranges key) (record { first = 0; count = 0 })

-- the need of a slot, for a dependency
abbrev pub need_of : Dependency → ℕ → Need
need_of dependency slot = record {
  slot = slot;
  condition = condition_of dependency.condition;
  required = dependency.required;
  restart = dependency.restart;
}

-- the needs for a dependency: one for each slot of the service
abbrev pub needs_on : Ranges → Dependency → List Need
needs_on ranges dependency =
    let range = range_of ranges dependency.key in
    map (need_of dependency) (range_with_len range.first range.count)

-- what each slot of a service waits for, dependency by dependency, which stand in byte order
abbrev pub needs_of : Ranges → Service → List Need
needs_of ranges service = flat_map (needs_on ranges) (dependencies_of service)

-- how many needs a slot of a service has
abbrev pub needs_each : Ranges → Service → ℕ
needs_each ranges service =
    sum_by (λ dependency. (range_of ranges dependency.key).count) (dependencies_of service)

-- how many needs the slots of a service have together
abbrev pub needs_in : Ranges → Service → ℕ
needs_in ranges service = (range_of ranges service.key).count * needs_each ranges service

-- a number, or the greatest of 64 bits
abbrev pub bounded : ℕ → ℕ
bounded n = min n (2 ^ 64 - 1)

-- how many needs all slots have together
abbrev pub need_count : Ranges → List Service → ℕ
need_count ranges services = bounded (sum_by (needs_in ranges) services)

-- the keys of the services that one depends on
abbrev pub depends_on : Service → List (List ℕ)
depends_on service = map (λ dependency. dependency.key) (dependencies_of service)
