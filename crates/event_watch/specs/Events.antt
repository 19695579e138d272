-- The events of a body of the Docker Engine API's `GET /events`: one JSON object a line.
use Rattle.std.specs.Prelude.{ℕ, ◌+◌, List, [], ◌∷◌, ◌++◌, length, Option, Some, None, option_map, codes, if◌then◌else◌, nat_lt}
use Rattle.event_watch.specs.declared.event.Event.{Event}
use Rattle.event_watch.specs.declared.event.LineFault.{LineFault}
use Rattle.response_rules.specs.Json.{given, json_of, text_at}
use Rattle.response_rules.specs.Lines.{lines}
use Rattle.response_rules.specs.Replies.{is_blank}
use Rattle.serde_json.specs.Data.{Data}
use Rattle.serde_json.specs.Find.{get}
use Rattle.tree_base.specs.Limits.{most_event_bytes}

-- the event that JSON tells: an object with the texts `Action` and `Actor.ID` (schema `EventMessage`)
abbrev pub event_of : Data → Option Event
event_of d =
    given (text_at (codes "Action") d)
    (λ action. option_map (λ id. record { id = id; action = action })
    (given (get (codes "Actor") d) (text_at (codes "ID"))))

-- the events that a whole line tells: none where it is blank, or one; None where it is neither
abbrev pub line_told : List ℕ → Option (List Event)
line_told line =
    if is_blank line then Some []
    else option_map (λ event. event ∷ []) (given (json_of line) event_of)

-- what a body tells: the events before its first bad line, and that line
pub record Told : Type 0 where
  pub told : List Event
  pub fault : Option LineFault

-- no event, and perhaps a bad line
abbrev pub only : Option LineFault → Told
only fault = record { told = []; fault = fault }

-- events, and what is told behind them
abbrev pub behind : List Event → Told → Told
behind before later = record { told = before ++ later.told; fault = later.fault }

-- a whole line that begins at a place tells this, and the lines behind it that
abbrev pub line_before : ℕ → Option (List Event) → Told → Told
line_before at (Some here) later = behind here later
line_before at None later = only (Some (LineFault.BadEvent at))

-- a line that isn't too long: one with no line end behind it tells nothing
abbrev pub ended_by : ℕ → List ℕ → List (List ℕ) → Told → Told
ended_by at line [] later = only None
ended_by at line (next ∷ more) later = line_before at (line_told line) later

-- what lines tell that begin at a place; the last of them has no line end behind it, and is bad only
-- where it is too long
abbrev pub told_by : ℕ → List (List ℕ) → Told
told_by at [] = only None
told_by at (line ∷ more) =
    if nat_lt most_event_bytes (length line) then only (Some (LineFault.TooLong at))
    else ended_by at line more (told_by (at + length line + 1) more)

-- the events of a body before its first bad line, and that line
abbrev pub events : List ℕ → Told
events bytes = told_by 0 (lines bytes)
