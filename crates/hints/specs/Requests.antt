-- What is said of a request that wasn't answered well.
use Rattle.std.specs.Prelude.{ℕ, Bool, false, not, ◌&&◌, ◌==◌, if◌then◌else◌, List, [], ◌++◌, flat_map, length, Option, None, codes}
use Rattle.std.specs.List.{list_any}
use Rattle.std.specs.Option.{option_map}
use Rattle.std.specs.Str.{bytes_eq}
use Rattle.engine_types.specs.declared.Exchange.{Exchange}
use Rattle.engine_types.specs.declared.Listed.{Listed}
use Rattle.engine_types.specs.declared.Outcome.{Outcome}
use Rattle.engine_types.specs.declared.Reply.{Reply}
use Rattle.engine_types.specs.declared.Request.{Request}
use Rattle.hints.specs.Told.{container_name, is_gone, network_name, rows_told}
use Rattle.run_model.specs.EngineRules.{is_live}
use Rattle.run_model.specs.Shown.{shown}

-- a container that was listed is on a network
abbrev pub is_on : List ℕ → Listed → Bool
is_on network row = list_any (λ own. bytes_eq own network) row.networks

-- a container that was listed runs on a network, and wasn't removed
abbrev pub is_still_on : List ℕ → List Exchange → Listed → Bool
is_still_on network exchanges row =
    is_live row.state && is_on network row && not (is_gone row.id exchanges)

-- the name of a container that is still on a network, behind a space; nothing of another one
abbrev pub spaced_name : List ℕ → List Exchange → Listed → List ℕ
spaced_name network exchanges row =
    if is_still_on network exchanges row then codes " " ++ shown row.name else []

-- the names of those of listed containers that are still on a network, each behind a space
abbrev pub names_in : List ℕ → List Exchange → List Listed → List ℕ
names_in network exchanges rows = flat_map (spaced_name network exchanges) rows

-- the names of all that were listed and are still on it
abbrev pub names_on : List ℕ → List Exchange → List ℕ
names_on network exchanges =
    flat_map (λ exchange. names_in network exchanges (rows_told exchange.outcome)) exchanges

-- the Engine refused since what is to be removed is used: 403 (Engine API, "NetworkDelete")
abbrev pub in_use : Outcome → Bool
in_use (Outcome.Answered (Reply.Refused status message)) = status == 403
in_use _ = false

-- what is said of those that are still on a network, by their names
abbrev pub still_words : List ℕ → List ℕ → List ℕ
still_words network names = codes "still on the network " ++ shown network ++ codes ":" ++ names

-- what is said of a network that is used, by the names of those that are still on it, if any
abbrev pub used_words : List ℕ → List ℕ → List ℕ
used_words network names =
    if length names == 0 then codes "the network is " ++ shown network
    else still_words network names

-- what is said of a network that wasn't removed, by whether that is since it is used
abbrev pub words_with : List ℕ → Bool → List ℕ → List ℕ
words_with network used names =
    if used then used_words network names else codes "the network is " ++ shown network

-- what is said of a network that wasn't removed: who is still on it where that is why, else its name
abbrev pub network_words : List ℕ → Outcome → List Exchange → List ℕ
network_words network outcome exchanges =
    words_with network (in_use outcome) (names_on network exchanges)

-- what is said of a network by its id, whose name is known
abbrev pub network_hint : List ℕ → Outcome → List Exchange → Option (List ℕ)
network_hint id outcome exchanges =
    option_map (λ network. network_words network outcome exchanges) (network_name id exchanges)

-- what is said of a container by its id, whose name is known
abbrev pub container_hint : List ℕ → List Exchange → Option (List ℕ)
container_hint id exchanges =
    option_map (λ name. codes "the container is " ++ shown name) (container_name id exchanges)

-- the hint on a request that has an id
abbrev pub request_hint : Request → Outcome → List Exchange → Option (List ℕ)
request_hint (Request.Inspect id) outcome exchanges = container_hint id exchanges
request_hint (Request.Logs id) outcome exchanges = container_hint id exchanges
request_hint (Request.Start id) outcome exchanges = container_hint id exchanges
request_hint (Request.Stop id seconds) outcome exchanges = container_hint id exchanges
request_hint (Request.Remove id) outcome exchanges = container_hint id exchanges
request_hint (Request.Connect network container aliases) outcome exchanges =
    container_hint container exchanges
request_hint (Request.RemoveNetwork id) outcome exchanges = network_hint id outcome exchanges
request_hint _ outcome exchanges = None
