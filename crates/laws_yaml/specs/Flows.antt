-- Trees written as flow collections, on one line (YAML 1.2, chapter 7.4).
use Rattle.std.specs.Prelude.{ℕ, List, [], ◌∷◌, ◌++◌, codes, flat_map, map}
use Rattle.project_print.specs.declared.node.Node.{Node, fold-Node}
use Rattle.project_print.specs.declared.node.Node.TheOpen.{Node-F}
use Rattle.project_print.specs.Scalars.{doubled, scalar}

-- a part behind another: a comma and a space before it
abbrev pub behind_comma : List ℕ → List ℕ
behind_comma part = codes ", " ++ part

-- parts with a comma and a space between each two
abbrev pub separated : List (List ℕ) → List ℕ
separated [] = []
separated (part ∷ parts) = part ++ flat_map behind_comma parts

-- an entry of a flow mapping: the key, a colon, a space and the value (YAML 1.2, production 142)
abbrev pub pair : List ℕ × List ℕ → List ℕ
pair (key, value) = scalar key ++ (codes ": " ++ value)

-- a node as a flow, where its parts are given by theirs: a mapping between curly brackets and a sequence between square ones (YAML 1.2, productions 140 and 137)
abbrev pub flow_step : Node-F (List ℕ) → List ℕ
flow_step Node-F.Null = codes "null"
flow_step (Node-F.Word text) = text
flow_step (Node-F.Text text) = scalar (doubled text)
flow_step (Node-F.Map entries) = codes "{" ++ (separated (map pair entries) ++ codes "}")
flow_step (Node-F.Seq items) = codes "[" ++ (separated items ++ codes "]")

-- a node on one line, as a flow
abbrev pub flow_text : Node → List ℕ
flow_text = fold-Node (List ℕ) flow_step

-- the file of a node as a flow: its one line, with its end
abbrev pub flow_page : Node → List ℕ
flow_page node = flow_text node ++ codes "\n"
