use Rattle.std.specs.Prelude.{map}
use Rattle.yaml_groups.specs.Grouped.{grouped}
use Rattle.yaml_lines.specs.Rows.{row_of}
use Rattle.laws_yaml.proofs.ReadingLimits.{document_limited}
use Rattle.laws_yaml.proofs.collections.trees_are_within_limits.Goals as goal

pub returns : goal.returns
returns c lines tree is =
    let limited = (document_limited 64 lines.file (grouped 0 0 (map row_of lines.lines))).fact tree is in
    record { levels = limited.deep; nodes = limited.nodes; text = limited.text }
