-- Lines that change nothing: blank ones, and those of a comment alone.
use Rattle.std.specs.Prelude.{◌≡◌, ℕ, zero, suc, List, [], ◌∷◌, ◌++◌, true, Result, Ok, Err, All, map, if◌then◌else◌}
use Rattle.tree_base.specs.declared.place.Place.{Place}
use Rattle.tree_base.specs.declared.tree.Tree.{Tree}
use Rattle.yaml_groups.specs.Grouped.{belonging, head_of}
use Rattle.yaml_lines.specs.Blanks.{is_blank, spaces}
use Rattle.yaml_lines.specs.Block.{lines_of_rows}
use Rattle.yaml_lines.specs.declared.lines.Lines.{Lines}
use Rattle.yaml_lines.specs.declared.refusal.YamlRefusal.{YamlRefusal}
use Rattle.yaml_lines.specs.declared.refusal.YamlRefusal.TheVariants.{Bad, TooDeep, TooManyNodes, TooMuchText, Memory}
use Rattle.yaml_lines.specs.declared.row.Row.{Row}
use Rattle.yaml_lines.specs.Rows.{row_of}
use Rattle.yaml_tree.specs.Reading.{reading}

-- a place without its line
abbrev pub unlined : Place → Place
unlined place = record place { line = 0 }

-- a refusal without the line of its place
abbrev pub unlined_refusal : YamlRefusal → YamlRefusal
unlined_refusal (Bad which place) = Bad which (unlined place)
unlined_refusal (TooDeep place) = TooDeep (unlined place)
unlined_refusal (TooManyNodes place) = TooManyNodes (unlined place)
unlined_refusal (TooMuchText place) = TooMuchText (unlined place)
unlined_refusal Memory = Memory

-- a reading, of whose value something is kept, and of whose refusal all but the line of its place
abbrev pub kept : {A B : Type 0} → (A → B) → Result A YamlRefusal → Result B YamlRefusal
kept keep (Ok x) = Ok (keep x)
kept keep (Err refusal) = Err (unlined_refusal refusal)

-- the characters of lines
abbrev pub chars_of : Lines → List (List ℕ)
chars_of lines = lines_of_rows (map row_of lines.lines)

-- a row of characters, without a number
abbrev pub row_with : List ℕ → Row
row_with cs = record { number = 0; indent = spaces cs; chars = cs }

-- how many of the lines that follow belong to one of some lines, as the content of a block scalar or the rest of a flow collection; so many belong to one before them, and the last dash or key stands at a column
abbrev pub taken_behind : ℕ → ℕ → List Row → List Row → ℕ
taken_behind owner skip [] after = skip
taken_behind owner (suc skip) (row ∷ rows) after = taken_behind owner skip rows after
taken_behind owner zero (row ∷ rows) after =
    if is_blank row.chars then taken_behind owner 0 rows after
    else (let head = head_of owner 0 0 row.chars in taken_behind head.0 (belonging head row (rows ++ after)) rows after)

-- between two parts of a text nothing goes over: no line of the second belongs to one of the first
abbrev pub NothingGoesOver : List (List ℕ) → List (List ℕ) → Type 0
NothingGoesOver before after = taken_behind 0 0 (map row_with before) (map row_with after) ≡ 0

-- lines of white space and a comment alone change nothing where nothing goes over their place, neither with them nor without: the tree is the same, and so is a refusal, but for the line of its place
abbrev pub BlankLinesChangeNothing : Type 0
BlankLinesChangeNothing = (plain spaced : Lines) (before blank after : List (List ℕ)) → plain.file ≡ spaced.file → chars_of plain ≡ before ++ after → chars_of spaced ≡ before ++ (blank ++ after)
    → All (λ cs. is_blank cs ≡ true) blank → NothingGoesOver before after → NothingGoesOver before (blank ++ after)
    → kept (λ (tree : Tree). tree) (reading spaced) ≡ kept (λ (tree : Tree). tree) (reading plain)
