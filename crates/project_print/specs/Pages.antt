-- A page, line by line (the block collections of YAML 1.2, chapter 8.2, each level two spaces deeper).
use Rattle.std.specs.Prelude.{ℕ, List, [], ◌∷◌, ◌++◌, Bool, true, false, codes, flat_map, map, if◌then◌else◌}
use Rattle.project_print.specs.declared.node.Node.{Node, fold-Node}
use Rattle.project_print.specs.declared.node.Node.TheOpen.{Node-F}
use Rattle.project_print.specs.Scalars.{doubled, scalar}

-- what is shown of a node: one line or more, which are a block below its key or stand behind it
pub record Shown : Type 0 where
  pub is_block : Bool
  pub first : List ℕ
  pub more : List (List ℕ)

-- its lines
abbrev pub lines_of : Shown → List (List ℕ)
lines_of shown = shown.first ∷ shown.more

-- a word, which stands behind its key
abbrev pub word : List ℕ → Shown
word text = record { is_block = false; first = text; more = [] }

-- a line one level deeper
abbrev pub deeper : List ℕ → List ℕ
deeper line = codes "  " ++ line

-- an entry of a mapping: the key, a colon and a space before a word, or the key and a colon above a block that is one level deeper
abbrev pub entry : List ℕ × Shown → Shown
entry (key, value) =
    if value.is_block then record { is_block = true; first = scalar key ++ codes ":"; more = map deeper (lines_of value) }
    else record { is_block = true; first = scalar key ++ (codes ": " ++ value.first); more = map deeper value.more }

-- an item of a sequence: a dash and a space before its first line, and its other lines below that one
abbrev pub item : Shown → Shown
item value = record { is_block = true; first = codes "- " ++ value.first; more = map deeper value.more }

-- parts below one another, and a word where there are none
abbrev pub block : List ℕ → List Shown → Shown
block empty [] = word empty
block empty (part ∷ parts) = record { is_block = true; first = part.first; more = part.more ++ flat_map lines_of parts }

-- what is shown of a node, where its parts are given by what is shown of them
abbrev pub shown_step : Node-F Shown → Shown
shown_step Node-F.Null = word (codes "null")
shown_step (Node-F.Word text) = word text
shown_step (Node-F.Text text) = word (scalar (doubled text))
shown_step (Node-F.Map entries) = block (codes "{}") (map entry entries)
shown_step (Node-F.Seq items) = block (codes "[]") (map item items)

-- what is shown of a node
abbrev pub shown : Node → Shown
shown = fold-Node Shown shown_step

-- a line with its end
abbrev pub ended : List ℕ → List ℕ
ended line = line ++ codes "\n"

-- the page of a node: its lines, each with its end
abbrev pub page_text : Node → List ℕ
page_text node = flat_map ended (lines_of (shown node))
