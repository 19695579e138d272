-- What a hand over a wire heard in each of its exchanges.
use Rattle.std.specs.Prelude.{ℕ, suc, Bool, true, false, List, [], ◌∷◌, length, Option, Some, None}
use Rattle.outside_api.specs.Hands.{Heard}
use Rattle.outside_api.specs.Pipes.{Talk}

-- what was heard where no connection was opened
abbrev pub nothing : Heard
nothing = record { read = []; ended = false }

-- what was heard on a connection
abbrev pub heard_of : Talk → Heard
heard_of talk = record { read = talk.read; ended = talk.ended }

-- how many exchanges opened a connection
abbrev pub connections : List Bool → ℕ
connections [] = 0
connections (true ∷ opened) = suc (connections opened)
connections (false ∷ opened) = connections opened

-- what was heard in each exchange, by which of them opened a connection, and what was said on those in turn
abbrev pub heard_in : List Bool → List Talk → List Heard
heard_in [] talks = []
heard_in (false ∷ opened) talks = nothing ∷ heard_in opened talks
heard_in (true ∷ opened) [] = nothing ∷ heard_in opened []
heard_in (true ∷ opened) (talk ∷ talks) = heard_of talk ∷ heard_in opened talks

-- how many connections are told to be closed; where nothing is told, so many as were opened
abbrev pub closed : Option (List Talk) → ℕ → ℕ
closed None opened = opened
closed (Some talks) opened = length talks
