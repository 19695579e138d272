-- The lines of so many slots.
use Rattle.std.proofs.Common.{◌≡◌, take}
use Rattle.wait_run.specs.Lines.{met_lines}
use Rattle.wait_run.proofs.lines.met_lines.Given as goal

abbrev pub invariant-loop-s : goal.invariant-loop-s
invariant-loop-s l = l.lines ≡ met_lines l.declared (take l.s-index l.met)
