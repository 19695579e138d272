-- What is printed of the entries of a book of logs.
use Rattle.std.specs.Prelude.{ℕ, Bool, true, false, List, [], ◌∷◌, ◌++◌, Option, Some, None, codes, flat_map, slice_get}
use Rattle.engine_types.specs.declared.Declared.{Declared}
use Rattle.engine_types.specs.declared.Slot.{Slot}
use Rattle.log_frames.specs.declared.line.LogLine.{LogLine}
use Rattle.log_book.specs.declared.entries.LogEntry.{LogEntry}

-- what stands between a container's name and a line's text: a bar for output, an exclamation mark for errors
abbrev pub mark_of : Bool → List ℕ
mark_of false = codes " | "
mark_of true = codes " ! "

-- a line as it is printed: the container's name, the mark of its side, its text and a line feed
abbrev pub line_text : List ℕ → LogLine → List ℕ
line_text name line = name ++ mark_of line.is_err ++ line.text ++ 10 ∷ []

-- lines of a slot's container as they are printed, in their order; without a slot nothing is
abbrev pub text_under : Option Slot → List LogLine → List ℕ
text_under None lines = []
text_under (Some slot) lines = flat_map (line_text slot.name) lines

-- an entry as it is printed: its lines under the name of its slot's container; nothing where no slot has its number, as no
-- entry of a book
abbrev pub entry_text : Declared → LogEntry → List ℕ
entry_text declared entry = text_under (slice_get declared.slots entry.container) entry.lines

-- entries as they are printed, in their order
abbrev pub log_text : Declared → List LogEntry → List ℕ
log_text declared entries = flat_map (entry_text declared) entries
