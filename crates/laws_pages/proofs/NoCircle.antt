-- Services by their images need no service, and so stand in no circle.
use Rattle.std.proofs.Common.{◌≡◌, ℕ, Bool, true, false, cond, List, [], ◌∷◌, Option, None, Some, length, map, refl, ap}
use Rattle.std.specs.Prelude.{find}
use Rattle.std.specs.List.{list_any, range_with_len}
use Rattle.std.specs.Option.{option_map_or}
use Rattle.std.specs.Str.{bytes_eq}
use Rattle.service_graph.specs.Cycles.{circle_of, circle_through, closes, cycle, dependencies_of, first_of, last_of, needs_at, ways}
use Rattle.tree_base.specs.ByteOrder.{by_key}
use Rattle.typed_project.specs.PlainProjects.{PlainService, service_of}
use Rattle.typed_project.specs.declared.service.Service.{Service}

-- what gives nothing of anything gives nothing first
none_first : {X Y : Type 0} (give : X → Option Y) → ((x : X) → give x ≡ None) → (xs : List X) → first_of (map give xs) ≡ None
none_first give none [] = refl
none_first give none (x ∷ xs) = rw (none x) (none_first give none xs)

-- what passes no test isn't found
none_found : {X : Type 0} (test : X → Bool) → ((x : X) → test x ≡ false) → (xs : List X) → find test xs ≡ None
none_found test fails [] = refl
none_found test fails (x ∷ xs) = rw (fails x) (none_found test fails xs)

-- no such service needs another
needs_none : (services : List PlainService) (key : List ℕ) → needs_at (map service_of services) key ≡ []
needs_none [] key = refl
needs_none (service ∷ services) key = by (bytes_eq service.key key) (needs_none services key)
  where
    by : (b : Bool) → needs_at (map service_of services) key ≡ []
        → option_map_or (λ (found : Service). map (λ need. need.key) (dependencies_of found)) (cond b (Some (service_of service)) (find (λ (other : Service). bytes_eq other.key key) (map service_of services))) [] ≡ []
    by true rest = refl
    by false rest = rest

module _ (services : List PlainService) where
  abbrev all : List Service
  all = map service_of services

  closes_none : (key : List ℕ) (way : List (List ℕ)) → closes all key way ≡ false
  closes_none key way = ap (list_any (bytes_eq key)) (needs_none services (last_of way))

  no_way : (key : List ℕ) (count : ℕ) → circle_of all key count ≡ None
  no_way key count = none_found (closes all key) (closes_none key) (ways all key count)

  none_through : (key : List ℕ) → circle_through all key ≡ None
  none_through key = none_first (circle_of all key) (no_way key) (range_with_len 0 (length all))

  pub no_circle : cycle all ≡ None
  no_circle = none_first (λ (service : Service). circle_through all service.key) (λ service. none_through service.key) (by_key (λ service. service.key) all)
