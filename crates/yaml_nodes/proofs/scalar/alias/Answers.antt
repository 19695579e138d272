use Rattle.std.proofs.Common.{ap, length, arith, length-drop}
use Rattle.yaml_lines.specs.Rows.{text_at}
use Rattle.yaml_nodes.proofs.scalar.alias.Goals as goal

pub copy_named-requires-clause-within : goal.copy_named-requires-clause-within
copy_named-requires-clause-within c =
    let a = c.args in
    omega (arith, ap length c.requires.behind, length-drop 1 (text_at a.row.now a.at), length-drop a.at a.row.now.chars)
