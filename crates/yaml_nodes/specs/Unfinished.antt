-- Nodes on one line before their properties finish them, which private contracts cite.
use Rattle.std.specs.Prelude.{Result, Ok, Err}
use Rattle.yaml_lines.specs.declared.refusal.YamlRefusal.{YamlRefusal}
use Rattle.yaml_nodes.specs.declared.properties.Properties.{Properties}
use Rattle.yaml_nodes.specs.Properties.{finished}
use Rattle.yaml_nodes.specs.Scalars.{Inline, ending}

-- what was read of a node, finished with its properties: its mark is put on it and its name is kept; a refusal stays
abbrev pub ended : Properties → Result Inline YamlRefusal → Result Inline YamlRefusal
ended found (Ok got) = Ok (ending got.0.1 (finished found (got.0.0, got.1)))
ended found (Err refusal) = Err refusal
