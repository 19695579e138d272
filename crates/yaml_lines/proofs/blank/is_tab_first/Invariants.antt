use Rattle.std.proofs.Common.{◌≡◌, drop}
use Rattle.yaml_lines.specs.Blanks.{is_tab_first}
use Rattle.yaml_lines.proofs.blank.is_tab_first.Given as goal

abbrev pub invariant-loop-c : goal.invariant-loop-c
invariant-loop-c l = is_tab_first (drop l.c-index l.chars) ≡ is_tab_first l.chars
