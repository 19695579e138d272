-- Block scalars, from the lines behind their header on, as lists of lines of characters (YAML 1.2, chapter 8.1).
use Rattle.std.specs.Prelude.{ℕ, zero, suc, ◌+◌, List, [], ◌∷◌, ◌++◌, Bool, false, Option, Some, None, take, drop, length, map, nat_lt, nat_le, ◌==◌, ◌&&◌, ◌||◌, not, if◌then◌else◌}
use Rattle.std.specs.Str.{encode_utf8_all}
use Rattle.yaml_lines.specs.declared.block_style.Chomp.{Chomp}
use Rattle.yaml_lines.specs.declared.block_style.Chomp.TheVariants.{Strip, Clip, Keep}
use Rattle.yaml_lines.specs.declared.lines.Lines.{Lines}
use Rattle.yaml_lines.specs.declared.row.Row.{Row}
use Rattle.yaml_lines.specs.Blanks.{is_white, spaces}
use Rattle.yaml_lines.specs.Rows.{row_of}

-- a line of spaces alone
abbrev pub is_all_spaces : List ℕ → Bool
is_all_spaces line = spaces line == length line

-- the content's indentation: that of the first line that has another character than spaces, if it is deeper than the parent's
abbrev pub content_indent : ℕ → List (List ℕ) → Option ℕ
content_indent parent [] = None
content_indent parent (line ∷ lines) =
    if is_all_spaces line then content_indent parent lines
    else (if nat_lt parent (spaces line) then Some (spaces line) else None)

-- how many lines stand before the first that has another character than spaces and isn't so deep
abbrev pub content_len : ℕ → List (List ℕ) → ℕ
content_len indent [] = 0
content_len indent (line ∷ lines) =
    if is_all_spaces line || nat_le indent (spaces line) then content_len indent lines + 1 else 0

-- how many lines of spaces alone stand at the front
abbrev pub empty_len : List (List ℕ) → ℕ
empty_len [] = 0
empty_len (line ∷ lines) = if is_all_spaces line then empty_len lines + 1 else 0

-- so many line ends
abbrev pub line_ends : ℕ → List ℕ
line_ends zero = []
line_ends (suc n) = 10 ∷ line_ends n

-- a line that begins with a space or a tab, of which folding keeps the line ends around it
abbrev pub begins_white : List ℕ → Bool
begins_white [] = false
begins_white (c ∷ cs) = is_white c

-- what stands before a line of the content that isn't empty, behind so many empty ones: `before` says of the line before these whether it begins with white space
abbrev pub gap : Bool → Option Bool → ℕ → List ℕ → List ℕ
gap folded None empties line = line_ends empties
gap folded (Some white) empties line =
    if folded && not (white || begins_white line)
    then (if empties == 0 then 32 ∷ [] else line_ends empties)
    else line_ends (empties + 1)

-- the lines of the content joined, without the line ends behind the last that isn't empty
abbrev pub joined : Bool → Option Bool → ℕ → List (List ℕ) → List ℕ
joined folded before empties [] = []
joined folded before empties (line ∷ lines) =
    if length line == 0 then joined folded before (empties + 1) lines
    else (gap folded before empties line
    ++ line ++ joined folded (Some (begins_white line)) 0 lines)

-- how many empty lines stand at the end, with so many before
abbrev pub trailing : ℕ → List (List ℕ) → ℕ
trailing empties [] = empties
trailing empties (line ∷ lines) = trailing (if length line == 0 then empties + 1 else 0) lines

-- the line ends that chomping leaves behind content, with so many empty lines at its end
abbrev pub ending : Chomp → ℕ → List ℕ
ending Strip empties = []
ending Clip empties = line_ends 1
ending Keep empties = line_ends (empties + 1)

-- the line ends that chomping leaves of so many empty lines alone
abbrev pub ending_alone : Chomp → ℕ → List ℕ
ending_alone Strip empties = []
ending_alone Clip empties = []
ending_alone Keep empties = line_ends empties

-- the text of content of an indentation, whose lines lose so many spaces
abbrev pub content_text : Bool → Chomp → ℕ → List (List ℕ) → List ℕ
content_text folded chomp indent lines =
    joined folded None 0 (map (drop indent) lines)
    ++ ending chomp (trailing 0 (map (drop indent) lines))

-- the characters of a block scalar, and how many lines it takes, by its content's indentation
abbrev pub block_with : Bool → Chomp → Option ℕ → List (List ℕ) → List ℕ × ℕ
block_with folded chomp None lines = (ending_alone chomp (empty_len lines), empty_len lines)
block_with folded chomp (Some indent) lines = (
  content_text folded chomp indent (take (content_len indent lines) lines),
  content_len indent lines,
)

-- the characters of a block scalar whose parent has an indentation, and how many lines it takes
abbrev pub block_of : Bool → Chomp → ℕ → List (List ℕ) → List ℕ × ℕ
block_of folded chomp parent lines = block_with folded chomp (content_indent parent lines) lines

-- the lines of rows
abbrev pub lines_of_rows : List Row → List (List ℕ)
lines_of_rows rows = map (λ row. row.chars) rows

-- as text
abbrev pub with_text : List ℕ × ℕ → List ℕ × ℕ
with_text read = (encode_utf8_all read.0, read.1)

-- a line of spaces alone, or one that is deeper than the parent
abbrev pub is_deeper : ℕ → List ℕ → Bool
is_deeper parent line = is_all_spaces line || nat_lt parent (spaces line)

-- the rows up to the first that isn't so
abbrev pub deeper : ℕ → List Row → List Row
deeper parent [] = []
deeper parent (row ∷ rows) = if is_deeper parent row.chars then row ∷ deeper parent rows else []

-- the text of a block scalar whose lines begin at a place of a file's lines, and the place behind its last
abbrev pub block_at : Bool → Chomp → ℕ → Lines → ℕ → List ℕ × ℕ
block_at folded chomp parent lines first =
    let read = block_of folded chomp parent (lines_of_rows (map row_of (drop first lines.lines))) in
    (encode_utf8_all read.0, first + read.1)
