-- The law that the page of a node is read as the tree that it spells, on characters.
use Rattle.std.specs.Prelude.{◌≡◌, Ok, true}
use Rattle.project_print.specs.declared.node.Node.{Node}
use Rattle.project_print.specs.Pages.{lines_of, shown}
use Rattle.laws_yaml.specs.BlockLaws.{IsWithinLimits, chars_of}
use Rattle.yaml_lines.specs.declared.lines.Lines.{Lines}
use Rattle.laws_yaml.specs.Readable.{is_readable, spelled_by}
use Rattle.yaml_tree.specs.Reading.{reading}

-- lines that are the page of a node spell its tree, within the limits: whatever texts stand in it, however deep
abbrev pub PagesReadBack : Type 0
PagesReadBack = (lines : Lines) (node : Node) → is_readable node ≡ true → IsWithinLimits (spelled_by node)
    → chars_of lines ≡ lines_of (shown node) → reading lines ≡ Ok (spelled_by node)
