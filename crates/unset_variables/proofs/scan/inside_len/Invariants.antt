use Rattle.std.proofs.Common.{◌≡◌, ◌≤◌, ◌+◌, false, drop}
use Rattle.interpolate.specs.Lengths.{inside_len}
use Rattle.unset_variables.proofs.scan.inside_len.Given as goal

abbrev pub invariant-loop-at : goal.invariant-loop-at
invariant-loop-at l = record { few : l.opened ≤ l.at; is : l.at + inside_len l.opened l.dollar (drop l.at l.text) ≡ inside_len 0 false l.text }
