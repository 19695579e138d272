-- Lines as lists of characters, and the places of their characters.
use Rattle.std.specs.Prelude.{ℕ, ◌+◌, List, [], ◌∷◌, take, drop, min, ◌==◌, if◌then◌else◌}
use Rattle.std.specs.Str.{chars}
use Rattle.tree_base.specs.Limits.{greatest_place}
use Rattle.tree_base.specs.declared.place.Place.{Place}
use Rattle.yaml_lines.specs.declared.lines.Line.{Line}
use Rattle.yaml_lines.specs.declared.row.Row.{Row}
use Rattle.yaml_lines.specs.Blanks.{spaces}

-- one more, where a number past the greatest of 32 bits is that number
abbrev pub one_more : ℕ → ℕ
one_more n = min (n + 1) greatest_place

-- a line by its characters
abbrev pub row_of : Line → Row
row_of line =
    record { number = line.number; indent = spaces (chars line.text); chars = chars line.text }

-- the place after characters that begin at a place: a line feed ends a line, every other character is a column
abbrev pub place_after : ℕ → ℕ → ℕ → List ℕ → Place
place_after file line column [] = record { file = file; line = line; column = column }
place_after file line column (c ∷ cs) =
    if c == 10 then place_after file (one_more line) 1 cs
    else place_after file line (one_more column) cs

-- the place of a character of a row
abbrev pub place_in : ℕ → Row → ℕ → Place
place_in file row at = place_after file row.number 1 (take at row.chars)

-- the row from a character on
abbrev pub text_at : Row → ℕ → List ℕ
text_at row at = drop at row.chars
