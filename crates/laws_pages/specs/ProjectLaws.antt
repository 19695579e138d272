-- Laws of pages that are read under variables.
use Rattle.std.specs.Prelude.{◌≡◌, ℕ, Ok, true}
use Rattle.interpolate.specs.Substitution.{Variables}
use Rattle.interpolate.specs.Walking.{substituted_tree}
use Rattle.project_print.specs.Values.{value_of}
use Rattle.project_print.specs.Pages.{page_text}
use Rattle.project_print.specs.declared.node.Node.{Node}
use Rattle.tree_base.specs.declared.tree.Tree.{Tree}
use Rattle.laws_yaml.specs.BlockLaws.{IsWithinLimits}
use Rattle.yaml_lines.specs.Scan.{scan_of}
use Rattle.yaml_nodes.specs.Progress.{◌>>=◌}
use Rattle.laws_yaml.specs.Printed.{is_printable, tree_of}
use Rattle.yaml_tree.specs.Reading.{reading}

-- the page of a node spells a tree whose scalars have the values that the node means, whatever the variables are
abbrev pub PagesGiveValues : Type 0
PagesGiveValues = (env : Variables) (file : ℕ) (node : Node) → is_printable node ≡ true → IsWithinLimits (tree_of node)
    → (tree : Tree) × ((scan_of file (page_text node) >>= reading) ≡ Ok tree) × (substituted_tree env tree ≡ Ok (value_of node))
