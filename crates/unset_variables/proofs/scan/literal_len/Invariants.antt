use Rattle.std.proofs.Common.{◌≡◌, ◌+◌, drop}
use Rattle.interpolate.specs.Lengths.{literal_len}
use Rattle.unset_variables.proofs.scan.literal_len.Given as goal

abbrev pub invariant-loop-at : goal.invariant-loop-at
invariant-loop-at l = l.at + literal_len (drop l.at l.text) ≡ literal_len l.text
