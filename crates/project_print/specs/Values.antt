-- What a node means: its texts as they are, whatever a page does to show them.
use Rattle.project_print.specs.declared.node.Node.{Node, fold-Node}
use Rattle.project_print.specs.declared.node.Node.TheOpen.{Node-F}
use Rattle.tree_base.specs.declared.tree.Tree.{Tree}
use Rattle.tree_base.specs.declared.tree.Tree.TheVariants.{Map, Null, Scalar, Seq}

-- the tree that a node means, where its parts are given by theirs
abbrev pub value_step : Node-F Tree → Tree
value_step Node-F.Null = Null
value_step (Node-F.Word text) = Scalar text
value_step (Node-F.Text text) = Scalar text
value_step (Node-F.Map entries) = Map entries
value_step (Node-F.Seq items) = Seq items

-- the tree that a node means
abbrev pub value_of : Node → Tree
value_of = fold-Node Tree value_step
