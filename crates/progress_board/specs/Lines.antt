-- What is written of what a call is at.
use Rattle.std.specs.Prelude.{ℕ, ◌-◌, ◌/◌, ◌%◌, List, [], ◌∷◌, ◌++◌, codes, decimal, fold, if◌then◌else◌}
use Rattle.std.specs.Fmt.{take_chars}
use Rattle.run_model.specs.Lines.{line}
use Rattle.progress_board.specs.declared.row.Row.{Row}

-- the line of what has begun and lasts
abbrev pub begun_line : List ℕ → List ℕ
begun_line words = line (codes "compose: " ++ words)

-- seconds with one place, of milliseconds
abbrev pub seconds_text : ℕ → List ℕ
seconds_text ms = decimal (ms / 1000) ++ codes "." ++ decimal (ms / 100 % 10) ++ codes " s"

-- the line of what has ended, with how long it took
abbrev pub ended_line : List ℕ → ℕ → List ℕ
ended_line words ms = line (codes "compose: " ++ words ++ codes ": " ++ seconds_text ms)

-- the part of a line that fits on eighty columns
abbrev pub cut_line : List ℕ → List ℕ
cut_line line = take_chars 79 line

-- what draws a line from the first column on and wipes what stood behind it (ECMA-48: carriage return, erase in line)
abbrev pub drawn : List ℕ → List ℕ
drawn line = 13 ∷ line ++ 27 ∷ codes "[K"

-- what stands before a row: the program's name before the first, a comma before each other one
abbrev pub lead : List ℕ → List ℕ
lead [] = codes "compose: "
lead (byte ∷ before) = codes ", "

-- the rows before, and behind them one with the whole seconds since it began, where it is said
abbrev pub with_row : ℕ → List ℕ → Row → List ℕ
with_row now before row =
    if row.is_said then before ++ lead before ++ row.words ++ codes " (" ++ decimal ((now - row.since) / 1000) ++ codes " s)"
    else before

-- all rows that are said, at a time, in milliseconds
abbrev pub rows_line : ℕ → List Row → List ℕ
rows_line now rows = fold (with_row now) [] rows
