-- Which service needs which, and in what circle (Compose Specification, depends_on).
use Rattle.std.specs.Prelude.{ℕ, zero, suc, Bool, List, [], ◌∷◌, ◌++◌, Option, None, codes, filter, find, flat_map, length, map, unwrap_or}
use Rattle.std.specs.List.{last_or, list_any, range_with_len}
use Rattle.std.specs.Option.{option_map_or, option_or}
use Rattle.std.specs.Str.{bytes_eq}
use Rattle.tree_base.specs.ByteOrder.{by_key}
use Rattle.attribute_types.specs.Lookups.{dependencies_at}
use Rattle.attribute_types.specs.declared.rows.Dependency.{Dependency}
use Rattle.typed_project.specs.declared.service.Service.{Service}

-- what a service needs
abbrev pub dependencies_of : Service → List Dependency
dependencies_of service = unwrap_or (dependencies_at service.attributes (codes "depends_on")) []

-- one service needs another
abbrev pub needs : List ℕ → Service → Bool
needs key service = list_any (λ need. bytes_eq need.key key) (dependencies_of service)

-- the services that need one, by their keys in byte order
abbrev pub dependents : List Service → List ℕ → List (List ℕ)
dependents services key = by_key (λ other. other) (map (λ service. service.key) (filter (needs key) services))

-- the service with a key
abbrev pub service_at : List Service → List ℕ → Option Service
service_at services key = find (λ service. bytes_eq service.key key) services

-- the keys that the service with a key needs, which stand in byte order
abbrev pub needs_at : List Service → List ℕ → List (List ℕ)
needs_at services key =
    option_map_or (λ service. map (λ need. need.key) (dependencies_of service))
    (service_at services key) []

-- the last service of a way
abbrev pub last_of : List (List ℕ) → List ℕ
last_of way = unwrap_or (last_or None way) []

-- a way from service to service, and one step further to each that its last one needs
abbrev pub steps_from : List Service → List (List ℕ) → List (List (List ℕ))
steps_from services way =
    map (λ need. way ++ need ∷ []) (needs_at services (last_of way))

-- all ways of so many steps from a service along what is needed, in byte order item by item
abbrev pub ways : List Service → List ℕ → ℕ → List (List (List ℕ))
ways services key zero = (key ∷ []) ∷ []
ways services key (suc count) = flat_map (steps_from services) (ways services key count)

-- a way that closes: its last service needs the first
abbrev pub closes : List Service → List ℕ → List (List ℕ) → Bool
closes services key way = list_any (bytes_eq key) (needs_at services (last_of way))

-- the first way of so many steps that closes
abbrev pub circle_of : List Service → List ℕ → ℕ → Option (List (List ℕ))
circle_of services key count = find (closes services key) (ways services key count)

-- what the first gives that gives something
abbrev pub first_of : {X : Type 0} → List (Option X) → Option X
first_of [] = None
first_of (found ∷ more) = option_or found (first_of more)

-- the shortest circle through a service, and the first of those in byte order item by item; none is longer than there are services
abbrev pub circle_through : List Service → List ℕ → Option (List (List ℕ))
circle_through services key =
    first_of (map (circle_of services key) (range_with_len 0 (length services)))

-- the circle of services that need one another: that through the first service, in byte order, that is on one
abbrev pub cycle : List Service → Option (List (List ℕ))
cycle services =
    first_of (map (λ service. circle_through services service.key)
    (by_key (λ service. service.key) services))
