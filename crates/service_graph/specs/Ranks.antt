-- Ranks of places, which no link makes less.
use Rattle.std.specs.Prelude.{ℕ, ◌<◌, ◌≤◌, List, get_or}
use Rattle.std.specs.List.{Contains}
use Rattle.service_graph.specs.Places.{next_of}

-- no place leads to one of a lesser rank
abbrev pub AreRanked : List (List ℕ) → List ℕ → Type 0
AreRanked links ranks =
    (from to : ℕ) → Contains (next_of links from) to → get_or ranks from 0 ≤ get_or ranks to 0

-- a place leads to places of greater ranks alone
abbrev pub IsApart : List (List ℕ) → List ℕ → ℕ → Type 0
IsApart links ranks from =
    (to : ℕ) → Contains (next_of links from) to → get_or ranks from 0 < get_or ranks to 0
