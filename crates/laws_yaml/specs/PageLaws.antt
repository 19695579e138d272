-- Laws about pages as texts that are read, on characters.
use Rattle.std.specs.Prelude.{◌≡◌, ◌≤◌, ℕ, List, Ok, length}
use Rattle.std.specs.Str.{encode_utf8_all}
use Rattle.tree_base.specs.Limits.{most_text}
use Rattle.project_print.specs.declared.node.Node.TheVariants as nodes
use Rattle.project_print.specs.Pages.{lines_of, shown}
use Rattle.project_print.specs.Scalars.{doubled}
use Rattle.tree_base.specs.declared.tree.Tree.TheVariants.{Scalar}
use Rattle.yaml_lines.specs.declared.lines.Lines.{Lines}
use Rattle.yaml_tree.specs.Reading.{reading}
use Rattle.laws_yaml.specs.BlockLaws.{chars_of}

-- the page of one text spells it, each of its dollars twice as it is printed
abbrev pub TextPagesReadBack : Type 0
TextPagesReadBack = (lines : Lines) (text : List ℕ) → length (encode_utf8_all (doubled text)) ≤ most_text → chars_of lines ≡ lines_of (shown (nodes.Text text))
    → reading lines ≡ Ok (Scalar (encode_utf8_all (doubled text)))
