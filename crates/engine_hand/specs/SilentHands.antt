-- What a hand tells whose peer is silent.
use Rattle.std.specs.Prelude.{Bool, List, [], map}
use Rattle.outside_api.specs.Hands.{Heard}

-- no byte was heard, and the connection ended, or didn't
abbrev pub silence : Bool → Heard
silence ended = record { read = []; ended = ended }

-- what was heard of a silent peer, exchange by exchange
abbrev pub silences : List Bool → List Heard
silences ends = map silence ends
