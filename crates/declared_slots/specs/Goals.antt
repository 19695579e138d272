-- What is asked of each slot's container in the end.
use Rattle.std.specs.Prelude.{ℕ, ◌==◌, Bool, true, false, not, if◌then◌else◌, ◌&&◌, List, [], ◌∷◌, Option, Some, None, codes, filter, flat_map, map}
use Rattle.std.specs.Option.{option_map_or}
use Rattle.std.specs.Str.{bytes_eq}
use Rattle.attribute_scalars.specs.Walks.{is_in}
use Rattle.attribute_types.specs.Lookups.{health_at}
use Rattle.attribute_types.specs.declared.rows.Dependency.{Dependency}
use Rattle.attribute_types.specs.declared.rows.DependencyCondition.{DependencyCondition}
use Rattle.attribute_types.specs.declared.rows.HealthCheck.{HealthCheck}
use Rattle.compose_words.specs.declared.options.Scale.{Scale}
use Rattle.engine_types.specs.declared.declared.Condition.{Condition}
use Rattle.service_graph.specs.Cycles.{dependencies_of}
use Rattle.typed_project.specs.declared.service.Service.{Service}
use Rattle.declared_slots.specs.Counts.{scale_of}

-- the dependency waits for the other's completion
abbrev pub waits_for_completion : Dependency → Bool
waits_for_completion dependency = is_completion dependency.condition
  where
    is_completion : DependencyCondition → Bool
    is_completion DependencyCondition.Completed = true
    is_completion condition = false

-- a service has slots
abbrev pub has_slots : List Scale → Service → Bool
has_slots scales service = not (scale_of scales service == 0)

-- the services whose completion a service waits for
abbrev pub completions_of : Service → List (List ℕ)
completions_of service =
    map (λ dependency. dependency.key) (filter waits_for_completion (dependencies_of service))

-- some slot waits for the completion of the service with a key
abbrev pub is_awaited : List Scale → List Service → List ℕ → Bool
is_awaited scales services key =
    is_in (flat_map completions_of (filter (has_slots scales) services)) key

-- a test that is `NONE`
abbrev pub is_none_test : List (List ℕ) → Bool
is_none_test [] = false
is_none_test (word ∷ words) = bytes_eq word (codes "NONE")

-- a health check that isn't `NONE`: one without a test is asked too
abbrev pub asks_health : HealthCheck → Bool
asks_health check = option_map_or (λ test. not (is_none_test test)) check.test true

-- the goal of a service's slots: health where it is asked, else completion where a slot waits for it, else to run
abbrev pub goal_of : Bool → Service → Condition
goal_of awaited service =
    if option_map_or asks_health (health_at service.attributes (codes "healthcheck")) false
    then Condition.Healthy
    else (if awaited then Condition.Completed else Condition.Running)
