-- What an entry saw.
use Rattle.std.specs.Prelude.{Option, Some, None}
use Rattle.engine_types.specs.declared.Entry.{Entry}
use Rattle.engine_types.specs.declared.Seen.{Seen}
use Rattle.engine_types.specs.declared.SeenEnd.{SeenEnd}

-- what an observation saw that ended so, where it ended well
abbrev pub seen_of : SeenEnd → Option Seen
seen_of (SeenEnd.Good seen) = Some seen
seen_of (SeenEnd.Bad fault) = None

-- what an entry saw, where it is an observation that ended well
abbrev pub seen_at : Option Entry → Option Seen
seen_at (Some (Entry.Seen observed)) = seen_of observed.end
seen_at _ = None
