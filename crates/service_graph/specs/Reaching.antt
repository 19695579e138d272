-- What was reached from a place, each with the one that it was reached from.
use Rattle.std.specs.Prelude.{◌≡◌, ℕ, ◌<◌, Bool, true, false, if◌then◌else◌, List, [], ◌∷◌, ◌++◌, Some, get_or, set, slice_get}
use Rattle.service_graph.specs.declared.ways.Reached.{Reached}
use Rattle.service_graph.specs.Places.{last_place}

-- the ways to what was reached, behind those to what was reached before
abbrev pub ways_on : List (List ℕ) → List Reached → List (List ℕ)
ways_on ways [] = ways
ways_on ways (one ∷ more) = ways_on (ways ++ (get_or ways one.from [] ++ one.place ∷ []) ∷ []) more

-- the ways to what was reached
abbrev pub ways_of : List Reached → List (List ℕ)
ways_of = ways_on []

-- each was reached from one that stands before it
abbrev pub AreFromEarlier : List Reached → Type 0
AreFromEarlier reached =
    (at : ℕ) (one : Reached) → slice_get reached at ≡ Some one → 0 < at → one.from < at

-- of ways those that end where none that was seen, and no earlier one of them, ends
abbrev pub fresh : List Bool → List (List ℕ) → List (List ℕ)
fresh seen [] = []
fresh seen (way ∷ more) =
    if get_or seen (last_place way) false
    then fresh seen more
    else way ∷ fresh (set seen (last_place way) true) more

-- what was seen, and where ways end
abbrev pub marked : List Bool → List (List ℕ) → List Bool
marked seen [] = seen
marked seen (way ∷ more) =
    if get_or seen (last_place way) false
    then marked seen more
    else marked (set seen (last_place way) true) more

-- what was reached grows by ways that end where none was seen
pub record Reaches (seen : List Bool) (reached : List Reached) (ways : List (List ℕ)) (after : List Bool) (all : List Reached) : Type 0 where
  pub grown : ways_of all ≡ ways_of reached ++ fresh seen ways
  pub noted : after ≡ marked seen ways
  pub earlier : AreFromEarlier reached → AreFromEarlier all
