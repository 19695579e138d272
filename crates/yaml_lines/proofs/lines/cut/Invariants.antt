use Rattle.std.proofs.Common.{◌≡◌, ◌++◌, drop, length}
use Rattle.std.specs.Str.Lines.{lines}
use Rattle.yaml_lines.specs.Scan.{numbered}
use Rattle.yaml_lines.proofs.lines.cut.Given as goal

abbrev pub invariant-loop-line : goal.invariant-loop-line
invariant-loop-line l = l.done ++ numbered l.number (drop (length l.yielded) (lines l.text)) ≡ numbered 1 (lines l.text)
