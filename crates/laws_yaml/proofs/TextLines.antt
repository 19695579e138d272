-- A file whose one line is a string of JSON, or another word, is read as its text.
use Rattle.std.proofs.Common.{◌≡◌, ℕ, suc, ◌≤◌, List, [], ◌∷◌, Ok, length, map, subst, append-nil, arith}
use Rattle.std.specs.Str.{encode_utf8_all}
use Rattle.json.specs.Print.{quoted}
use Rattle.yaml_groups.specs.Grouped.{grouped}
use Rattle.project_print.specs.Pages as pages
use Rattle.tree_base.specs.Trees.{text_size}
use Rattle.tree_base.specs.declared.tree.Tree.TheVariants.{Scalar}
use Rattle.yaml_lines.specs.Block.{lines_of_rows}
use Rattle.yaml_lines.specs.declared.lines.Line.{Line}
use Rattle.yaml_lines.specs.declared.plain.Context.TheVariants.{Block}
use Rattle.yaml_lines.specs.Rows.{row_of}
use Rattle.yaml_tree.specs.Reading.{document}
use Rattle.laws_yaml.proofs.Sizes.{scalar_sizes}
use Rattle.laws_yaml.proofs.Documents.{page_is}
use Rattle.laws_yaml.proofs.Spelled.{IsSpelled}
use Rattle.laws_yaml.proofs.Spells.{word_spells}
use Rattle.laws_yaml.proofs.Standing.{stand_first}
use Rattle.laws_yaml.proofs.Values.{IsValue, value_spelled}
use Rattle.laws_yaml.proofs.Strings.{string_spelled}

-- a string stands for the tree of its text
pub string_value : (text : List ℕ) → IsValue (quoted text) (Scalar (encode_utf8_all text))
string_value text =
    value_spelled (quoted text) text (subst (λ l. IsSpelled Block l text (length (quoted text))) (append-nil (quoted text)) (string_spelled Block text []))

-- a file whose one line stands for a scalar
pub value_page : (levels file : ℕ) (lines : List Line) (word bytes : List ℕ) → IsValue word (Scalar bytes)
    → text_size (Scalar bytes) ≤ 16777216 → lines_of_rows (map row_of lines) ≡ word ∷ []
    → document (suc levels) file (grouped 0 0 (map row_of lines)) ≡ Ok (Scalar bytes)
value_page levels file lines word bytes value long are =
    let sizes = scalar_sizes bytes in
    page_is (suc levels) file (pages.word word) (Scalar bytes) (map row_of lines)
    (word_spells levels word (Scalar bytes) value (omega (arith, sizes.levels)))
    (stand_first lines (word ∷ []) are) (omega (arith, sizes.nodes)) long
