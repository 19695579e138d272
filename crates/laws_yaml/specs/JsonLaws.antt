-- Laws about trees written as JSON, on characters and on bytes.
use Rattle.std.specs.Prelude.{◌≡◌, ℕ, [], ◌∷◌, Ok, true}
use Rattle.project_print.specs.declared.compact_json.Dollars.TheVariants.{Twice}
use Rattle.project_print.specs.declared.node.Node.{Node}
use Rattle.project_print.specs.Json.{json_of, json_page_text}
use Rattle.project_print.specs.Pages.{page_text}
use Rattle.laws_yaml.specs.BlockLaws.{IsWithinLimits, chars_of}
use Rattle.yaml_lines.specs.declared.lines.Lines.{Lines}
use Rattle.laws_yaml.specs.Readable.{is_readable, spelled_by}
use Rattle.yaml_tree.specs.Reading.{reading}
use Rattle.yaml_lines.specs.Scan.{scan_of}
use Rattle.yaml_nodes.specs.Progress.{◌>>=◌}
use Rattle.laws_yaml.specs.Printed.{is_printable, tree_of}

-- a file whose one line is the JSON of a node spells the tree of the node (YAML 1.2, chapter 1.3: each text of JSON is one of YAML)
abbrev pub JsonReadsBack : Type 0
JsonReadsBack = (lines : Lines) (node : Node) → is_readable node ≡ true → IsWithinLimits (spelled_by node) → chars_of lines ≡ json_of Twice node ∷ [] → reading lines ≡ Ok (spelled_by node)

-- a file that is the JSON of a node spells the tree of the node, byte for byte, whatever texts stand in it
abbrev pub PrintedJsonReadsBack : Type 0
PrintedJsonReadsBack = (file : ℕ) (node : Node) → is_printable node ≡ true → IsWithinLimits (tree_of node)
    → (scan_of file (json_page_text node) >>= reading) ≡ Ok (tree_of node)

-- the page of a node and its JSON are read as one tree, byte for byte
abbrev pub PagesAndJsonAgree : Type 0
PagesAndJsonAgree = (file : ℕ) (node : Node) → is_printable node ≡ true → IsWithinLimits (tree_of node)
    → (scan_of file (page_text node) >>= reading) ≡ (scan_of file (json_page_text node) >>= reading)
