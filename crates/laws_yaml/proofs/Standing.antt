-- Rows that have lines, each behind so many spaces.
use Rattle.std.proofs.Common.{◌≡◌, ◌∙◌, ℕ, zero, suc, ◌+◌, List, [], ◌∷◌, ◌++◌, drop, map, refl, ap, subst, arith}
use Rattle.yaml_groups.specs.declared.line.LogicalLine.{LogicalLine}
use Rattle.project_print.specs.Pages.{deeper}
use Rattle.yaml_lines.specs.Blanks.{spaces}
use Rattle.yaml_lines.specs.Block.{lines_of_rows}
use Rattle.yaml_lines.specs.declared.lines.Line.{Line}
use Rattle.yaml_lines.specs.declared.row.Row.{Row}
use Rattle.yaml_lines.specs.Rows.{row_of}
use Rattle.laws_yaml.proofs.NumberedLines.{row_with}

-- a line behind so many spaces
abbrev pub margin : ℕ → List ℕ → List ℕ
margin zero line = line
margin (suc column) line = 32 ∷ margin column line

-- rows that have lines, each behind so many spaces
abbrev pub Stand : ℕ → List (List ℕ) → List Row → Type 0
Stand column [] [] = Unit {0}
Stand column [] (row ∷ rows) = ⊥
Stand column (line ∷ lines) [] = ⊥
Stand column (line ∷ lines) (row ∷ rows) = (row ≡ row_with row.number (margin column line)) × Stand column lines rows

-- a row alone, with no lines that belong to it
abbrev pub lone_line : Row → LogicalLine
lone_line row = record { row = row; content = [] }

pub drop_margin : (column : ℕ) (line : List ℕ) → drop column (margin column line) ≡ line
drop_margin zero line = refl
drop_margin (suc column) line = drop_margin column line

pub spaces_margin : (column : ℕ) (line : List ℕ) → spaces (margin column line) ≡ column + spaces line
spaces_margin zero line = omega arith
spaces_margin (suc column) line = omega (arith, spaces_margin column line)

margin_deeper : (column : ℕ) (line : List ℕ) → margin column (deeper line) ≡ margin (suc (suc column)) line
margin_deeper zero line = refl
margin_deeper (suc column) line = ap (λ l. 32 ∷ l) (margin_deeper column line)

stand_own : (lines : List Line) → Stand 0 (lines_of_rows (map row_of lines)) (map row_of lines)
stand_own [] = tt
stand_own (line ∷ lines) = (refl, stand_own lines)

-- the lines of a file stand at its first column
pub stand_first : (lines : List Line) (texts : List (List ℕ)) → lines_of_rows (map row_of lines) ≡ texts → Stand 0 texts (map row_of lines)
stand_first lines texts are = subst (λ texts. Stand 0 texts (map row_of lines)) are (stand_own lines)

-- lines one level deeper stand two columns to the right
pub stand_deeper : (column : ℕ) (lines : List (List ℕ)) (rows : List Row) → Stand column (map deeper lines) rows → Stand (suc (suc column)) lines rows
stand_deeper column [] [] stand = tt
stand_deeper column [] (row ∷ rows) stand = absurd stand
stand_deeper column (line ∷ lines) [] stand = absurd stand
stand_deeper column (line ∷ lines) (row ∷ rows) stand = (stand.0 ∙ ap (row_with row.number) (margin_deeper column line), stand_deeper column lines rows stand.1)

-- rows of two lists of lines are those of the first and those of the second
pub stand_split : (column : ℕ) (a b : List (List ℕ)) (rows : List Row) → Stand column (a ++ b) rows
    → (first : List Row) × (rest : List Row) × (rows ≡ first ++ rest) × Stand column a first × Stand column b rest
stand_split column [] b rows stand = ([], rows, refl, tt, stand)
stand_split column (line ∷ a) b [] stand = absurd stand
stand_split column (line ∷ a) b (row ∷ rows) stand =
    let split = stand_split column a b rows stand.1 in
    (row ∷ split.0, split.1, ap (λ l. row ∷ l) split.2, (stand.0, split.3), split.4)
