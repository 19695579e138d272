use Rattle.std.proofs.Common.{◌≡◌, ◌+◌, drop}
use Rattle.interpolate.specs.Lengths.{run_len}
use Rattle.unset_variables.proofs.scan.run_len.Given as goal

abbrev pub invariant-loop-at : goal.invariant-loop-at
invariant-loop-at l = l.at + run_len (drop l.at l.text) ≡ run_len l.text
