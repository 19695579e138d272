-- What the exchanges of a run tell of the containers and networks that have an id.
use Rattle.std.specs.Prelude.{ℕ, Bool, false, if◌then◌else◌, List, [], ◌∷◌, find, Option, Some, None}
use Rattle.std.specs.List.{list_any}
use Rattle.std.specs.Option.{option_map, option_or}
use Rattle.std.specs.Str.{bytes_eq}
use Rattle.engine_types.specs.declared.Exchange.{Exchange}
use Rattle.engine_types.specs.declared.Listed.{Listed}
use Rattle.engine_types.specs.declared.NetRow.{NetRow}
use Rattle.engine_types.specs.declared.Outcome.{Outcome}
use Rattle.engine_types.specs.declared.Reply.{Reply}
use Rattle.engine_types.specs.declared.Request.{Request}

-- the first that is given for an item, of those that something is given for
abbrev pub first_given : {X Y : Type 0} → (X → Option Y) → List X → Option Y
first_given f [] = None
first_given f (x ∷ xs) = option_or (f x) (first_given f xs)

-- the name that a listing of containers shows beside an id (Engine API, "ContainerList")
abbrev pub listed_name : List ℕ → List Listed → Option (List ℕ)
listed_name id rows = option_map (λ row. row.name) (find (λ row. bytes_eq row.id id) rows)

-- the name that a listing of networks shows beside an id (Engine API, "NetworkList")
abbrev pub listed_network : List ℕ → List NetRow → Option (List ℕ)
listed_network id rows = option_map (λ row. row.name) (find (λ row. bytes_eq row.id id) rows)

-- the name of the container that a request makes
abbrev pub made_container : Request → Option (List ℕ)
made_container (Request.Create name spec) = Some name
made_container _ = None

-- the name of the network that a request makes
abbrev pub made_network : Request → Option (List ℕ)
made_network (Request.MakeNetwork spec) = Some spec.name
made_network _ = None

-- the name of the container with an id, where an exchange tells it: it lists the container, or made it
abbrev pub container_told : List ℕ → Request → Outcome → Option (List ℕ)
container_told id request (Outcome.Answered (Reply.Containers rows)) = listed_name id rows
container_told id request (Outcome.Answered (Reply.Made made)) =
    if bytes_eq made id then made_container request else None
container_told id request _ = None

-- the same of a network
abbrev pub network_told : List ℕ → Request → Outcome → Option (List ℕ)
network_told id request (Outcome.Answered (Reply.Networks rows)) = listed_network id rows
network_told id request (Outcome.Answered (Reply.Made made)) =
    if bytes_eq made id then made_network request else None
network_told id request _ = None

-- the name of the container with an id, as the first exchange that knows it tells it
abbrev pub container_name : List ℕ → List Exchange → Option (List ℕ)
container_name id exchanges =
    first_given (λ exchange. container_told id exchange.request exchange.outcome) exchanges

-- the same of a network
abbrev pub network_name : List ℕ → List Exchange → Option (List ℕ)
network_name id exchanges =
    first_given (λ exchange. network_told id exchange.request exchange.outcome) exchanges

-- an exchange removed the container with an id (Engine API, "ContainerDelete")
abbrev pub is_removal : List ℕ → Request → Outcome → Bool
is_removal id (Request.Remove removed) (Outcome.Answered Reply.Done) = bytes_eq removed id
is_removal id request outcome = false

-- the container with an id was removed
abbrev pub is_gone : List ℕ → List Exchange → Bool
is_gone id exchanges =
    list_any (λ exchange. is_removal id exchange.request exchange.outcome) exchanges

-- the containers that an outcome lists
abbrev pub rows_told : Outcome → List Listed
rows_told (Outcome.Answered (Reply.Containers rows)) = rows
rows_told _ = []
