-- The lines that are read: blank ones are left out, and those of a flow collection or a block scalar belong to the line in which it begins.
use Rattle.std.specs.Prelude.{ℕ, zero, suc, ◌+◌, List, [], ◌∷◌, ◌++◌, Bool, false, Option, Some, None, drop, take, length, ◌==◌, ◌||◌, if◌then◌else◌}
use Rattle.yaml_lines.specs.Blanks.{is_blank, is_white}
use Rattle.yaml_lines.specs.declared.block_style.Chomp.TheVariants.{Clip}
use Rattle.yaml_lines.specs.Block.{block_of, lines_of_rows}
use Rattle.yaml_lines.specs.declared.plain.Context.TheVariants.{Block}
use Rattle.yaml_lines.specs.declared.row.Row.{Row}
use Rattle.yaml_groups.specs.declared.line.LogicalLine.{LogicalLine}
use Rattle.yaml_groups.specs.Cuts.{cuts}
use Rattle.yaml_nodes.specs.Marks.{before_colon, is_item, is_key, is_property, name_len, starts}

-- where the value of a line begins, behind dashes, keys and properties, and the column of the last dash or key, or that of a line before; so many characters belong to one that began before
abbrev pub head_of : ℕ → ℕ → ℕ → List ℕ → ℕ × ℕ
head_of owner at skip [] = (owner, at)
head_of owner at (suc skip) (c ∷ cs) = head_of owner (at + 1) skip cs
head_of owner at zero (c ∷ cs) =
    if is_white c then head_of owner (at + 1) 0 cs
    else (if is_item (c ∷ cs) then head_of at (at + 1) 0 cs
    else (if is_property (c ∷ cs) then head_of owner (at + 1) (name_len cs) cs
    else (if is_key Block (c ∷ cs) then head_of at (at + 1) (before_colon Block (c ∷ cs)) cs
    else (owner, at))))

-- a row with the lines that follow it behind line feeds
abbrev pub joined_chars : List ℕ → List Row → List ℕ
joined_chars chars [] = chars
joined_chars chars (row ∷ rows) = chars ++ 10 ∷ joined_chars row.chars rows

-- how many line ends stand in characters
abbrev pub line_ends_in : List ℕ → ℕ
line_ends_in [] = 0
line_ends_in (c ∷ cs) = if c == 10 then line_ends_in cs + 1 else line_ends_in cs

-- the bracket that closes a collection, if it is the last of its cuts: all others are commas
abbrev pub closing : List ℕ → List ℕ → Option ℕ
closing text [] = None
closing text (cut ∷ cuts) = if starts 44 (drop cut text) then closing text cuts else Some cut

-- how many line ends stand before a place, else in all
abbrev pub ends_before : List ℕ → ℕ → Option ℕ → ℕ
ends_before text all (Some at) = line_ends_in (take at text)
ends_before text all None = all

-- how many of so many lines that follow belong to a flow collection, by all characters behind its opening bracket: those up to the line in which it is closed, else all
abbrev pub flow_lines : List ℕ → ℕ → ℕ
flow_lines text lines = ends_before text lines (closing text (cuts 0 0 0 false text))

-- a flow collection begins here
abbrev pub begins_flow : List ℕ → Bool
begins_flow cs = starts 91 cs || starts 123 cs

-- a block scalar begins here
abbrev pub begins_block : List ℕ → Bool
begins_block cs = starts 124 cs || starts 62 cs

-- how many of the lines that follow belong to a line, whose value begins at a place, and the dash or key of which stands at a column
abbrev pub belonging : ℕ × ℕ → Row → List Row → ℕ
belonging head row rows =
    if begins_flow (drop head.1 row.chars)
    then flow_lines (drop (head.1 + 1) (joined_chars row.chars rows)) (length rows)
    else (if begins_block (drop head.1 row.chars)
    then (block_of false Clip head.0 (lines_of_rows rows)).1 else 0)

-- a line with those that belong to it: a flow collection is one row of them, a block scalar keeps them beside it
abbrev pub with_lines : ℕ → Row → List Row → LogicalLine
with_lines value row lines =
    if begins_flow (drop value row.chars)
    then record { row = record row { chars = joined_chars row.chars lines }; content = [] }
    else record { row = row; content = lines }

-- the lines that are read, where so many belong to a line before, and the last dash or key stands at a column
abbrev pub grouped : ℕ → ℕ → List Row → List LogicalLine
grouped owner skip [] = []
grouped owner (suc skip) (row ∷ rows) = grouped owner skip rows
grouped owner zero (row ∷ rows) =
    if is_blank row.chars then grouped owner 0 rows
    else (let head = head_of owner 0 0 row.chars in
    let n = belonging head row rows in
    with_lines head.1 row (take n rows) ∷ grouped head.0 n rows)
