use Rattle.std.proofs.Common.{◌≡◌, drop}
use Rattle.yaml_lines.specs.Blanks.{is_rest_blank}
use Rattle.yaml_lines.proofs.blank.is_rest_blank.Given as goal

abbrev pub invariant-loop-c : goal.invariant-loop-c
invariant-loop-c l = is_rest_blank l.white (drop l.c-index l.chars) ≡ is_rest_blank l.initial.white l.chars
