-- The page of one text is read as that text.
use Rattle.std.proofs.Common.{◌≡◌, ◌∙◌, ℕ, List, map, ap, rules, arith}
use Rattle.std.specs.Str.{encode_utf8_all}
use Rattle.project_print.specs.declared.node.Node.{the_lemmas}
use Rattle.project_print.specs.declared.node.Node.TheVariants as nodes
use Rattle.project_print.specs.Pages.{lines_of, shown, word}
use Rattle.project_print.specs.Scalars.{doubled, scalar}
use Rattle.tree_base.specs.declared.tree.Tree.{Tree}
use Rattle.tree_base.specs.declared.tree.Tree.TheVariants.{Scalar}
use Rattle.laws_yaml.proofs.Sizes.{scalar_sizes}
use Rattle.yaml_lines.specs.Rows.{row_of}
use Rattle.laws_yaml.proofs.Documents.{page_is}
use Rattle.laws_yaml.proofs.Spells.{word_spells}
use Rattle.laws_yaml.proofs.Standing.{stand_first}
use Rattle.laws_yaml.proofs.Values.{text_value}
use Rattle.laws_yaml.specs.PageLaws.{TextPagesReadBack}

shown_text : (text : List ℕ) → shown (nodes.Text text) ≡ word (scalar (doubled text))
shown_text text = search (rules, the_lemmas)

pub read_back : TextPagesReadBack
read_back lines text few are =
    let tree : Tree = Scalar (encode_utf8_all (doubled text)) in
    let sizes = scalar_sizes (encode_utf8_all (doubled text)) in
    let spelled = word_spells 63 (scalar (doubled text)) tree (text_value (doubled text)) (omega (arith, sizes.levels)) in
    let stand = stand_first lines.lines (lines_of (word (scalar (doubled text)))) (are ∙ ap lines_of (shown_text text)) in
    page_is 64 lines.file (word (scalar (doubled text))) tree (map row_of lines.lines) spelled stand (omega (arith, sizes.nodes)) (omega (arith, few, sizes.text))
