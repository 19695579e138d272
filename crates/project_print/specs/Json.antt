-- The same as JSON without spaces (RFC 8259).
use Rattle.std.specs.Prelude.{ℕ, List, ◌++◌, codes, map}
use Rattle.std.specs.List.{join_with_byte}
use Rattle.json.specs.Print.{quoted}
use Rattle.project_print.specs.declared.compact_json.Dollars.{Dollars}
use Rattle.project_print.specs.declared.compact_json.Dollars.TheVariants.{Once, Twice}
use Rattle.project_print.specs.declared.node.Node.{Node, fold-Node}
use Rattle.project_print.specs.declared.node.Node.TheOpen.{Node-F}
use Rattle.project_print.specs.Scalars.{doubled}

-- a text with its dollars as they are printed
abbrev pub spelled : Dollars → List ℕ → List ℕ
spelled Twice text = doubled text
spelled Once text = text

-- a member of an object: the key in quotes, a colon and the value
abbrev pub member : List ℕ × List ℕ → List ℕ
member (key, value) = quoted key ++ (codes ":" ++ value)

-- parts with a comma between each two
abbrev pub listed : List (List ℕ) → List ℕ
listed parts = join_with_byte 44 parts

-- the JSON of a node, where its parts are given by theirs
abbrev pub json_step : Dollars → Node-F (List ℕ) → List ℕ
json_step dollars Node-F.Null = codes "null"
json_step dollars (Node-F.Word text) = text
json_step dollars (Node-F.Text text) = quoted (spelled dollars text)
json_step dollars (Node-F.Map entries) = codes "{" ++ (listed (map member entries) ++ codes "}")
json_step dollars (Node-F.Seq items) = codes "[" ++ (listed items ++ codes "]")

-- the JSON of a node
abbrev pub json_of : Dollars → Node → List ℕ
json_of dollars = fold-Node (List ℕ) (json_step dollars)

-- a page as JSON: with its dollars twice, and a line end
abbrev pub json_page_text : Node → List ℕ
json_page_text node = json_of Twice node ++ codes "\n"
