-- Lines of white space and a comment alone change nothing where nothing goes over their place.
use Rattle.std.proofs.Common.{◌≡◌, ◌∙◌, ℕ, List, [], ◌∷◌, ◌++◌, All, Bool, true, false, if◌then◌else◌, Result, Ok, map, refl, sym, ap, subst}
use Rattle.std.proofs.lemmas.List.{map-append}
use Rattle.std.proofs.lemmas.List.Elements.{All-head, All-tail}
use Rattle.yaml_groups.specs.declared.line.LogicalLine.{LogicalLine}
use Rattle.yaml_groups.specs.Grouped.{grouped}
use Rattle.tree_base.specs.declared.tree.Tree.{Tree}
use Rattle.yaml_lines.specs.Blanks.{is_blank}
use Rattle.yaml_lines.specs.Block.{lines_of_rows}
use Rattle.yaml_lines.specs.declared.lines.Line.{Line}
use Rattle.yaml_lines.specs.declared.refusal.YamlRefusal.{YamlRefusal}
use Rattle.yaml_lines.specs.declared.row.Row.{Row}
use Rattle.yaml_lines.specs.Rows.{row_of}
use Rattle.yaml_nodes.specs.Progress.{◌>>=◌, at_start}
use Rattle.yaml_nodes.specs.Properties.{no_properties}
use Rattle.yaml_tree.specs.Blocks.{below, node}
use Rattle.yaml_tree.specs.Reading.{behind_start, document, is_start, no_owner}
use Rattle.laws_yaml.specs.BlankLines.{BlankLinesChangeNothing, kept, row_with, taken_behind}
use Rattle.laws_yaml.proofs.Alike.{Same, gives, followed}
use Rattle.laws_yaml.proofs.Belonging.{grouped_before}
use Rattle.laws_yaml.proofs.Blocks.{bare_owner, below_same, node_same}
use Rattle.laws_yaml.proofs.Lines.{grouped_bare}
use Rattle.laws_yaml.proofs.LineParts.{bare_line, bare_lines}
use Rattle.laws_yaml.proofs.Places.{bare}

-- the tree of lines without the numbers of their rows
abbrev bare_document : ℕ → ℕ → List LogicalLine → Result Tree YamlRefusal
bare_document levels file lines = below (node levels) (bare_owner no_owner) no_properties (at_start file) (behind_start lines) >>= λ got. Ok got.0

start_bare : (lines : List LogicalLine) → bare_lines (behind_start lines) ≡ behind_start (bare_lines lines)
start_bare [] = refl
start_bare (line ∷ lines) = by (is_start line.row.chars)
  where
    by : (b : Bool) → bare_lines (if b then lines else line ∷ lines) ≡ (if b then bare_lines lines else bare_line line ∷ bare_lines lines)
    by true = refl
    by false = refl

document_same : (levels file : ℕ) (lines : List LogicalLine) → Same (document levels file lines) (bare_document levels file (bare_lines lines))
document_same levels file lines =
    subst (λ more. Same (document levels file lines) (below (node levels) (bare_owner no_owner) no_properties (at_start file) more >>= λ got. Ok got.0)) (start_bare lines)
    (followed (below_same (node levels) (node_same levels) no_owner no_properties no_properties (at_start file) (behind_start lines) refl) (λ got. gives refl))

-- rows without their numbers are those of their characters
rows_bare : (lines : List Line) → map bare (map row_of lines) ≡ map row_with (lines_of_rows (map row_of lines))
rows_bare [] = refl
rows_bare (line ∷ lines) = ap (λ rows. bare (row_of line) ∷ rows) (rows_bare lines)

-- lines that are grouped by their characters are read by these alone
read_by : (levels file : ℕ) (lines : List Line) (texts : List (List ℕ)) → lines_of_rows (map row_of lines) ≡ texts
    → kept (λ (tree : Tree). tree) (document levels file (grouped 0 0 (map row_of lines))) ≡ kept (λ (tree : Tree). tree) (bare_document levels file (grouped 0 0 (map row_with texts)))
read_by levels file lines texts are =
    (document_same levels file (grouped 0 0 (map row_of lines))).same
    ∙ ap (λ lines. kept (λ (tree : Tree). tree) (bare_document levels file lines)) (grouped_bare 0 0 (map row_of lines) ∙ ap (grouped 0 0) (rows_bare lines) ∙ ap (λ texts. grouped 0 0 (map row_with texts)) are)

module _ (levels : ℕ) where
  read_alike : (file file' : ℕ) (plain spaced : List Line) (before blank after : List (List ℕ)) → file ≡ file' → lines_of_rows (map row_of plain) ≡ before ++ after → lines_of_rows (map row_of spaced) ≡ before ++ (blank ++ after)
      → grouped 0 0 (map row_with (before ++ after)) ≡ grouped 0 0 (map row_with (before ++ (blank ++ after)))
      → kept (λ (tree : Tree). tree) (document levels file' (grouped 0 0 (map row_of spaced))) ≡ kept (λ (tree : Tree). tree) (document levels file (grouped 0 0 (map row_of plain)))
  read_alike file file' plain spaced before blank after one plain_is spaced_is same =
      read_by levels file' spaced (before ++ (blank ++ after)) spaced_is
      ∙ ap (λ n. kept (λ (tree : Tree). tree) (bare_document levels n (grouped 0 0 (map row_with (before ++ (blank ++ after)))))) (sym one)
      ∙ ap (λ lines. kept (λ (tree : Tree). tree) (bare_document levels file lines)) (sym same)
      ∙ sym (read_by levels file plain (before ++ after) plain_is)

blank_first : (owner : ℕ) (blank : List (List ℕ)) (rows : List Row) → All (λ cs. is_blank cs ≡ true) blank → grouped owner 0 rows ≡ grouped owner 0 (map row_with blank ++ rows)
blank_first owner [] rows h = refl
blank_first owner (cs ∷ blank) rows h =
    let first = All-head (λ cs. is_blank cs ≡ true) cs blank h in
    rw first (blank_first owner blank rows (All-tail (λ cs. is_blank cs ≡ true) cs blank h))

pub change_nothing : BlankLinesChangeNothing
change_nothing plain spaced before blank after one plain_is spaced_is are_blank free free' =
    let apart = map-append row_with blank after in
    let free' = subst (λ rows. taken_behind 0 0 (map row_with before) rows ≡ 0) apart free' in
    let same = grouped_before 0 0 (map row_with before) (map row_with after) (map row_with blank ++ map row_with after) free free' (λ owner. blank_first owner blank (map row_with after) are_blank) in
    let spaced_rows = map-append row_with before (blank ++ after) ∙ ap (λ rows. map row_with before ++ rows) apart in
    read_alike 64 plain.file spaced.file plain.lines spaced.lines before blank after one plain_is spaced_is (ap (grouped 0 0) (map-append row_with before after) ∙ same ∙ sym (ap (grouped 0 0) spaced_rows))
