use Rattle.std.proofs.Common.{◌≡◌, ◌++◌, ◌-◌}
use Rattle.std.specs.Str.{encode_utf8_all}
use Rattle.yaml_lines.specs.Block.{line_ends}
use Rattle.yaml_lines.proofs.block_style.push_line_ends.Given as goal

abbrev pub invariant-loop : goal.invariant-loop
invariant-loop l = l.text ++ encode_utf8_all (line_ends (l.count - l.counter)) ≡ l.initial.text ++ encode_utf8_all (line_ends l.count)
