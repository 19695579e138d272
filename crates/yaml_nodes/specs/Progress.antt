-- What was read so far, and the limits: one thing is read after the other, and the first refusal ends it.
use Rattle.std.specs.Prelude.{ℕ, ◌+◌, [], Result, Ok, Err, nat_lt, if◌then◌else◌}
use Rattle.tree_base.specs.Limits.{most_nodes, most_text}
use Rattle.tree_base.specs.declared.place.Place.{Place}
use Rattle.tree_base.specs.declared.tree.Tree.{Tree}
use Rattle.tree_base.specs.Trees.{node_count, depth, text_size}
use Rattle.yaml_lines.specs.declared.refusal.YamlFault.{YamlFault}
use Rattle.yaml_lines.specs.declared.refusal.YamlRefusal.{YamlRefusal}
use Rattle.yaml_lines.specs.declared.refusal.YamlRefusal.TheVariants.{Bad, TooDeep, TooManyNodes, TooMuchText}
use Rattle.yaml_lines.specs.declared.row.Row.{Row}
use Rattle.yaml_lines.specs.Rows.{place_in}
use Rattle.yaml_nodes.specs.declared.progress.Progress.{Progress}
use Rattle.yaml_nodes.specs.declared.spot.Spot.{Spot}
use Rattle.yaml_nodes.specs.declared.spot.Spot.TheVariants.{Here, Before}

infixl 10 ◌>>=◌
-- what was read goes on into the next part; a refusal ends the reading
abbrev pub ◌>>=◌ : {A B : Type 0} → Result A YamlRefusal → (A → Result B YamlRefusal) →
    Result B YamlRefusal
(Ok x) >>= f = f x
(Err refusal) >>= f = Err refusal

-- what a call gave, beside the value that it left
abbrev pub result_beside : {A X : Type 0} → Result A YamlRefusal → X → Result (A × X) YamlRefusal
result_beside (Ok a) x = Ok (a, x)
result_beside (Err refusal) x = Err refusal

-- the value that a call left, where it didn't refuse
abbrev pub result_left : {A X : Type 0} → Result A YamlRefusal → X → Result X YamlRefusal
result_left (Ok a) x = Ok x
result_left (Err refusal) x = Err refusal

-- before the first line of a file nothing was read
abbrev pub at_start : ℕ → Progress
at_start file = record { file = file; nodes = 0; text = 0; names = [] }

-- a fault at a character of a row
abbrev pub bad : {X : Type 0} → YamlFault → Progress → Row → ℕ → Result X YamlRefusal
bad which p row at = Err (Bad which (place_in p.file row at))

-- the place of a spot, where a row is being read
abbrev pub place_of : Progress → Row → Spot → Place
place_of p row (Here at) = place_in p.file row at
place_of p row (Before place) = place

-- more bytes of keys and scalars: at most 16,777,216 in all
abbrev pub more_text : Progress → Row → Spot → ℕ → Result Progress YamlRefusal
more_text p row spot bytes =
    if nat_lt most_text (p.text + bytes) then Err (TooMuchText (place_of p row spot))
    else Ok (record p { text = p.text + bytes })

-- more nodes and bytes: at most 200,000 nodes in all, and the nodes are asked first
abbrev pub more_nodes : Progress → Row → Spot → ℕ → ℕ → Result Progress YamlRefusal
more_nodes p row spot nodes bytes =
    if nat_lt most_nodes (p.nodes + nodes) then Err (TooManyNodes (place_of p row spot))
    else more_text (record p { nodes = p.nodes + nodes }) row spot bytes

-- a node that takes so many levels of those that are left, with its nodes and bytes: the levels are asked first
abbrev pub taken : ℕ → Progress → Row → ℕ → ℕ → ℕ → ℕ → Result Progress YamlRefusal
taken levels p row at deep nodes bytes =
    if nat_lt levels deep then Err (TooDeep (place_in p.file row at))
    else more_nodes p row (Here at) nodes bytes

-- one node, with so many bytes of its own
abbrev pub one_node : ℕ → Progress → Row → ℕ → ℕ → Result Progress YamlRefusal
one_node levels p row at bytes = taken levels p row at 1 1 bytes

-- a copy of a tree, of which everything counts again
abbrev pub copied : ℕ → Progress → Row → ℕ → Tree → Result (Tree × Progress) YamlRefusal
copied levels p row at tree =
    taken levels p row at (depth tree) (node_count tree) (text_size tree) >>= λ p. Ok (tree, p)
