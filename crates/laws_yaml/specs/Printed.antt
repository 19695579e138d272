-- Which nodes are read back as they are printed, and the trees that their pages spell.
use Rattle.std.specs.Prelude.{Bool, true, ◌&&◌}
use Rattle.std.specs.List.{list_all}
use Rattle.std.specs.Map.{keys_of, values_of}
use Rattle.std.specs.Str.{is_utf8}
use Rattle.project_print.specs.declared.node.Node.{Node, fold-Node}
use Rattle.project_print.specs.declared.node.Node.TheOpen.{Node-F}
use Rattle.project_print.specs.Scalars.{doubled}
use Rattle.tree_base.specs.declared.tree.Tree.{Tree}
use Rattle.tree_base.specs.declared.tree.Tree.TheVariants.{Map, Null, Scalar, Seq}
use Rattle.laws_yaml.specs.Readable.{are_distinct, is_read_as_word, is_so}

-- the tree of a node, where its parts are given by theirs: texts have each dollar twice, as they are printed
abbrev pub printed_step : Node-F Tree → Tree
printed_step Node-F.Null = Null
printed_step (Node-F.Word text) = Scalar text
printed_step (Node-F.Text text) = Scalar (doubled text)
printed_step (Node-F.Map entries) = Map entries
printed_step (Node-F.Seq items) = Seq items

-- the tree of a node
abbrev pub tree_of : Node → Tree
tree_of = fold-Node Tree printed_step

-- whether a node is read back, where its parts are given by whether they are: words are read as they stand,
-- texts and keys are UTF-8, and no two keys of a mapping are the same
abbrev pub printable_step : Node-F Bool → Bool
printable_step Node-F.Null = true
printable_step (Node-F.Word text) = is_read_as_word text
printable_step (Node-F.Text text) = is_utf8 text
printable_step (Node-F.Map entries) = list_all is_utf8 (keys_of entries) && (are_distinct (keys_of entries) && list_all is_so (values_of entries))
printable_step (Node-F.Seq items) = list_all is_so items

-- whether a node is read back
abbrev pub is_printable : Node → Bool
is_printable = fold-Node Bool printable_step
