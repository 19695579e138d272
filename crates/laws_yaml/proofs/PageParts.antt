-- A block is cut exactly where its parts begin: no line that is deeper than it begins one.
use Rattle.std.proofs.Common.{◌≡◌, ◌∙◌, ℕ, suc, ◌+◌, ◌<◌, Bool, true, false, not, eqb, ◌||◌, All, List, [], ◌∷◌, ◌++◌, drop, length, map, refl, ap, arith}
use Rattle.std.proofs.lemmas.Bool.{and_left, cond-false, cond-true, lt-leb, ne_eqb}
use Rattle.std.proofs.lemmas.List.Elements.{All-cons, All-head, All-nil, All-tail}
use Rattle.yaml_groups.specs.declared.line.LogicalLine.{LogicalLine}
use Rattle.project_print.specs.Pages.{deeper}
use Rattle.yaml_lines.specs.Blanks.{spaces}
use Rattle.yaml_lines.specs.declared.row.Row.{Row}
use Rattle.yaml_nodes.specs.Marks.{is_item}
use Rattle.yaml_tree.specs.Parts.{begins_entry, begins_item, is_bare, is_item_at, parted, value_len}
use Rattle.laws_yaml.proofs.NumberedLines.{row_with}
use Rattle.laws_yaml.proofs.Standing.{Stand, lone_line, margin, spaces_margin}

-- the lines before the first part, and the parts
abbrev Cut : Type 0
Cut = List LogicalLine × List (LogicalLine × List LogicalLine)

-- a line more before the first part
abbrev before : LogicalLine → Cut → Cut
before line cut = (line ∷ cut.0, cut.1)

-- a line that begins a part
abbrev begun : LogicalLine → Cut → Cut
begun line cut = ([], (line, cut.0) ∷ cut.1)

module _ (begins : LogicalLine → Bool) where
  -- lines that begin no part stay before the first
  pub parted_more : (more rest : List Row) → All (λ line. begins line ≡ false) (map lone_line more) → (parted begins (map lone_line rest)).0 ≡ []
      → parted begins (map lone_line (more ++ rest)) ≡ (map lone_line more, (parted begins (map lone_line rest)).1)
  parted_more [] rest none from = λ i. (from i, (parted begins (map lone_line rest)).1)
  parted_more (row ∷ more) rest none from =
      let cut = parted begins (map lone_line (more ++ rest)) in
      let here : begins (lone_line row) ≡ false = All-head (λ line. begins line ≡ false) (lone_line row) (map lone_line more) none in
      let later = parted_more more rest (All-tail (λ line. begins line ≡ false) (lone_line row) (map lone_line more) none) from in
      cond-false (begins (lone_line row)) (begun (lone_line row) cut) (before (lone_line row) cut) here ∙ ap (before (lone_line row)) later

  -- a line that begins a part, the part's other lines, and parts
  pub parted_part : (row : Row) (more rest : List Row) → begins (lone_line row) ≡ true → All (λ line. begins line ≡ false) (map lone_line more)
      → (parted begins (map lone_line rest)).0 ≡ []
      → parted begins (lone_line row ∷ map lone_line (more ++ rest)) ≡ ([], (lone_line row, map lone_line more) ∷ (parted begins (map lone_line rest)).1)
  parted_part row more rest here none from =
      let cut = parted begins (map lone_line (more ++ rest)) in
      cond-true (begins (lone_line row)) (begun (lone_line row) cut) (before (lone_line row) cut) here ∙ ap (begun (lone_line row)) (parted_more more rest none from)

-- a row one level deeper than a column has its text further to the right
deeper_indent : (column : ℕ) (line : List ℕ) (row : Row) → row ≡ row_with row.number (margin column (deeper line)) → column < row.indent
deeper_indent column line row is =
    let indent : row.indent ≡ spaces (margin column (deeper line)) = ap (λ (r : Row). r.indent) is in
    let spaces_are : spaces (margin column (deeper line)) ≡ column + spaces (deeper line) = spaces_margin column (deeper line) in
    let two : spaces (deeper line) ≡ spaces line + 1 + 1 = refl in
    omega arith

no_begin : (column : ℕ) (line : List ℕ) (row : Row) → row ≡ row_with row.number (margin column (deeper line)) → begins_item column (lone_line row) ≡ false
no_begin column line row is = lt-leb row.indent column (deeper_indent column line row is)

-- no deeper line begins an item
pub no_item_begins : (column : ℕ) (lines : List (List ℕ)) (rows : List Row) → Stand column (map deeper lines) rows → All (λ line. begins_item column line ≡ false) (map lone_line rows)
no_item_begins column [] [] stand = All-nil (λ line. begins_item column line ≡ false)
no_item_begins column [] (row ∷ rows) stand = absurd stand
no_item_begins column (line ∷ lines) [] stand = absurd stand
no_item_begins column (line ∷ lines) (row ∷ rows) stand =
    All-cons (λ line. begins_item column line ≡ false) (lone_line row) (map lone_line rows) (no_begin column line row stand.0) (no_item_begins column lines rows stand.1)

-- and none an entry
pub no_entry_begins : (column : ℕ) (lines : List (List ℕ)) (rows : List Row) → Stand column (map deeper lines) rows → All (λ line. begins_entry column line ≡ false) (map lone_line rows)
no_entry_begins column [] [] stand = All-nil (λ line. begins_entry column line ≡ false)
no_entry_begins column [] (row ∷ rows) stand = absurd stand
no_entry_begins column (line ∷ lines) [] stand = absurd stand
no_entry_begins column (line ∷ lines) (row ∷ rows) stand =
    All-cons (λ line. begins_entry column line ≡ false) (lone_line row) (map lone_line rows)
    (and_left (begins_item column (lone_line row)) (not (is_item_at column (lone_line row))) (no_begin column line row stand.0))
    (no_entry_begins column lines rows stand.1)

apart : (column indent : ℕ) → column < indent → eqb indent column ≡ false
apart column indent less = ne_eqb indent column (λ same. absurd (omega arith))

no_item_at : (column : ℕ) (line : List ℕ) (row : Row) → row ≡ row_with row.number (margin column (deeper line)) → is_item_at column (lone_line row) ≡ false
no_item_at column line row is = and_left (eqb row.indent column) (is_item (drop column row.chars)) (apart column row.indent (deeper_indent column line row is))

-- all deeper lines are those of the value, since no item stands among them
pub value_len_is : (column : ℕ) (stands : Bool) (lines : List (List ℕ)) (rows : List Row) → Stand column (map deeper lines) rows
    → value_len column stands (map lone_line rows) ≡ length (map lone_line rows)
value_len_is column stands [] [] stand = refl
value_len_is column stands [] (row ∷ rows) stand = absurd stand
value_len_is column stands (line ∷ lines) [] stand = absurd stand
value_len_is column stands (line ∷ lines) (row ∷ rows) stand =
    let later = value_len_is column (stands || not (is_bare (lone_line row))) lines rows stand.1 in
    let one : 1 + length (map lone_line rows) ≡ suc (length (map lone_line rows)) = omega arith in
    cond-false (is_item_at column (lone_line row)) _ _ (no_item_at column line row stand.0)
    ∙ ap (λ n. 1 + n) later ∙ one
