-- Services by their places, for looking for circles: a service's place stands for its key.
use Rattle.std.specs.Prelude.{ℕ, zero, suc, ◌==◌, ◌<◌, Bool, List, [], ◌∷◌, ◌++◌, Option, None, find, filter_map, flat_map, length, map, position, slice_get, unwrap_or}
use Rattle.std.specs.List.{Contains, last_or, list_any, range_with_len}
use Rattle.std.specs.Option.{option_map_or}
use Rattle.std.specs.Str.{bytes_eq}
use Rattle.typed_project.specs.declared.service.Service.{Service}
use Rattle.service_graph.specs.Cycles.{dependencies_of, first_of}

-- the place of the service with a key
abbrev pub place_of : List Service → List ℕ → Option ℕ
place_of services key = position (λ service. bytes_eq service.key key) services

-- the places of those that a service needs; what isn't there is passed over, and is on no circle
abbrev pub places_of : List Service → Service → List ℕ
places_of services service =
    filter_map (λ need. place_of services need.key) (dependencies_of service)

-- for each service the places of those that it needs
abbrev pub links_of : List Service → List (List ℕ)
links_of services = map (places_of services) services

-- the places that a place leads to
abbrev pub next_of : List (List ℕ) → ℕ → List ℕ
next_of links place = unwrap_or (slice_get links place) []

-- the last place of a way
abbrev pub last_place : List ℕ → ℕ
last_place way = unwrap_or (last_or None way) 0

-- a way from place to place, and one step further to each that its last one leads to
abbrev pub place_steps : List (List ℕ) → List ℕ → List (List ℕ)
place_steps links way = map (λ next. way ++ next ∷ []) (next_of links (last_place way))

-- ways, each one step further
abbrev pub further : List (List ℕ) → List (List ℕ) → List (List ℕ)
further links ways = flat_map (place_steps links) ways

-- all ways of so many steps from a place, in order item by item
abbrev pub place_ways : List (List ℕ) → ℕ → ℕ → List (List ℕ)
place_ways links start zero = (start ∷ []) ∷ []
place_ways links start (suc count) = further links (place_ways links start count)

-- a way whose last place leads to its first
abbrev pub leads_back : List (List ℕ) → ℕ → List ℕ → Bool
leads_back links start way = list_any (λ next. next == start) (next_of links (last_place way))

-- the shortest way that leads back, and the first of those
abbrev pub way_back : List (List ℕ) → ℕ → Option (List ℕ)
way_back links start =
    first_of (map (λ count. find (leads_back links start) (place_ways links start count)) (range_with_len 0 (length links)))

-- each place of the links is one of them
abbrev pub AreWithin : List (List ℕ) → Type 0
AreWithin links = (from to : ℕ) → Contains (next_of links from) to → to < length links

-- the first way back to a place that has one, from the first place on
abbrev pub first_back : List (List ℕ) → Option (List ℕ)
first_back links = first_of (map (way_back links) (range_with_len 0 (length links)))

-- the key of the service at a place
abbrev pub key_at : List Service → ℕ → List ℕ
key_at services place = option_map_or (λ service. service.key) (slice_get services place) []

-- the keys of the services at places
abbrev pub keys_on : List Service → List ℕ → List (List ℕ)
keys_on services way = map (key_at services) way
