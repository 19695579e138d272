-- Laws about trees written as flows, on characters and on bytes.
use Rattle.std.specs.Prelude.{◌≡◌, ℕ, [], ◌∷◌, Ok, true}
use Rattle.project_print.specs.declared.node.Node.{Node}
use Rattle.project_print.specs.Pages.{lines_of, page_text, shown}
use Rattle.laws_yaml.specs.Flows.{flow_page, flow_text}
use Rattle.laws_yaml.specs.BlockLaws.{IsWithinLimits, chars_of}
use Rattle.yaml_lines.specs.declared.lines.Lines.{Lines}
use Rattle.laws_yaml.specs.Readable.{is_readable, spelled_by}
use Rattle.yaml_tree.specs.Reading.{reading}
use Rattle.yaml_lines.specs.Scan.{scan_of}
use Rattle.yaml_nodes.specs.Progress.{◌>>=◌}
use Rattle.laws_yaml.specs.Printed.{is_printable, tree_of}

-- a file whose one line is a node as a flow spells the tree of the node (YAML 1.2, chapter 7.4)
abbrev pub FlowsReadBack : Type 0
FlowsReadBack = (lines : Lines) (node : Node) → is_readable node ≡ true → IsWithinLimits (spelled_by node) → chars_of lines ≡ flow_text node ∷ [] → reading lines ≡ Ok (spelled_by node)

-- a node reads the same from its page as from its flow: blocks and flows spell one tree (YAML 1.2, chapters 7.4 and 8.2)
abbrev pub BlocksAndFlowsAgree : Type 0
BlocksAndFlowsAgree = (page flow : Lines) (node : Node) → is_readable node ≡ true → IsWithinLimits (spelled_by node) → chars_of page ≡ lines_of (shown node) → chars_of flow ≡ flow_text node ∷ []
    → reading page ≡ reading flow

-- a file that is a node as a flow spells the tree of the node, byte for byte
abbrev pub PrintedFlowsReadBack : Type 0
PrintedFlowsReadBack = (file : ℕ) (node : Node) → is_printable node ≡ true → IsWithinLimits (tree_of node)
    → (scan_of file (flow_page node) >>= reading) ≡ Ok (tree_of node)

-- the page of a node and the node as a flow are read as one tree, byte for byte (YAML 1.2, chapters 7.4 and 8.2)
abbrev pub PrintedBlocksAndFlowsAgree : Type 0
PrintedBlocksAndFlowsAgree = (file : ℕ) (node : Node) → is_printable node ≡ true → IsWithinLimits (tree_of node)
    → (scan_of file (page_text node) >>= reading) ≡ (scan_of file (flow_page node) >>= reading)
