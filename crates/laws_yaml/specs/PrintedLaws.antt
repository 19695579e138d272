-- The law that the page of a node, as it is printed, is read as its tree.
use Rattle.std.specs.Prelude.{◌≡◌, ℕ, Ok, true}
use Rattle.project_print.specs.declared.node.Node.{Node}
use Rattle.project_print.specs.Pages.{page_text}
use Rattle.laws_yaml.specs.BlockLaws.{IsWithinLimits}
use Rattle.yaml_lines.specs.Scan.{scan_of}
use Rattle.yaml_nodes.specs.Progress.{◌>>=◌}
use Rattle.laws_yaml.specs.Printed.{is_printable, tree_of}
use Rattle.yaml_tree.specs.Reading.{reading}

-- the page of a node is read as its tree, within the limits: whatever texts stand in it, however deep
abbrev pub PrintedPagesReadBack : Type 0
PrintedPagesReadBack = (file : ℕ) (node : Node) → is_printable node ≡ true → IsWithinLimits (tree_of node)
    → (scan_of file (page_text node) >>= reading) ≡ Ok (tree_of node)
