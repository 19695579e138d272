-- Nodes as the program holds them.
use Rattle.std.specs.Prelude.{Bool, true, ◌&&◌}
use Rattle.std.specs.List.{list_all}
use Rattle.std.specs.Map.{keys_of, values_of}
use Rattle.std.specs.Str.{is_utf8}
use Rattle.project_print.specs.declared.node.Node.{Node, fold-Node}
use Rattle.project_print.specs.declared.node.Node.TheOpen.{Node-F}
use Rattle.laws_yaml.specs.Readable.{are_distinct, is_so}

-- whether texts and keys are UTF-8 and no mapping has a key twice, where the parts of a node are given by whether it is so of them
abbrev pub held_step : Node-F Bool → Bool
held_step Node-F.Null = true
held_step (Node-F.Word text) = true
held_step (Node-F.Text text) = is_utf8 text
held_step (Node-F.Map entries) = list_all is_utf8 (keys_of entries) && (are_distinct (keys_of entries) && list_all is_so (values_of entries))
held_step (Node-F.Seq items) = list_all is_so items

-- whether the texts and keys of a node are UTF-8 and no mapping in it has a key twice, as in each node that the program holds
abbrev pub is_held : Node → Bool
is_held = fold-Node Bool held_step
