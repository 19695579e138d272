-- What a circle of services is, whatever way it is looked for.
use Rattle.std.specs.Prelude.{◌≡◌, ◌≤◌, ℕ, false, List, [], ◌∷◌, Option, Some, None, length, map, slice_get}
use Rattle.std.specs.Cmp.Lexicographic.{slice_cmp}
use Rattle.std.specs.List.{Contains, IsDistinct}
use Rattle.std.specs.Ordering.{is_lt, nat_cmp}
use Rattle.std.specs.Str.{bytes_eq}
use Rattle.tree_base.specs.ByteOrder.{IsAscending, is_before}
use Rattle.typed_project.specs.declared.service.Service.{Service}
use Rattle.service_graph.specs.Cycles.{cycle, dependencies_of, needs_at}

-- one service needs another, by their keys
abbrev pub Needs : List Service → List ℕ → List ℕ → Type 0
Needs services key need = Contains (needs_at services key) need

-- each service of a way needs the next, and the last one a given one
abbrev pub LeadsTo : List Service → List ℕ → List ℕ → List (List ℕ) → Type 0
LeadsTo services end key [] = Needs services key end
LeadsTo services end key (next ∷ more) = Needs services key next × LeadsTo services end next more

-- a circle: each service needs the next, and the last one the first
abbrev pub IsCircle : List Service → List (List ℕ) → Type 0
IsCircle services [] = ⊥
IsCircle services (key ∷ more) = LeadsTo services key key more

-- one list of keys doesn't stand before another, item by item
abbrev pub IsNotBefore : List (List ℕ) → List (List ℕ) → Type 0
IsNotBefore keys others = is_lt (slice_cmp (slice_cmp nat_cmp) keys others) ≡ false

-- the first service of a circle
abbrev pub first_key : List (List ℕ) → List ℕ
first_key [] = []
first_key (key ∷ more) = key

-- the least of all circles: first by the service that it begins with, then by its length, then item by item
pub record IsLeastCircle (services : List Service) (circle : List (List ℕ)) : Type 0 where
  pub closes : IsCircle services circle
  pub service : (other : List (List ℕ)) → IsCircle services other
      → is_before (first_key other) (first_key circle) ≡ false
  pub shortest : (other : List (List ℕ)) → IsCircle services other
      → first_key other ≡ first_key circle → length circle ≤ length other
  pub least : (other : List (List ℕ)) → IsCircle services other
      → first_key other ≡ first_key circle → length other ≡ length circle → IsNotBefore other circle

-- what is told of a circle of services
abbrev pub IsToldCircle : List Service → Option (List (List ℕ)) → Type 0
IsToldCircle services None = (circle : List (List ℕ)) → IsCircle services circle → ⊥
IsToldCircle services (Some circle) = IsLeastCircle services circle

-- the dependencies of each service stand in byte order of their keys, which differ
abbrev pub NeedsAreInOrder : List Service → Type 0
NeedsAreInOrder services =
    (at : ℕ) (service : Service) → slice_get services at ≡ Some service
    → IsAscending (λ need other. is_before need.key other.key) (dependencies_of service)

-- of services of different keys, whose dependencies stand in byte order, the least circle is told, and none only where
-- there is none
abbrev pub CyclesAreLeast : Type 0
CyclesAreLeast =
    (services : List Service) → IsDistinct bytes_eq (map (λ service. service.key) services)
    → NeedsAreInOrder services → IsToldCircle services (cycle services)
