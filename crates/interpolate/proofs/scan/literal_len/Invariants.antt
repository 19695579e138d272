use Rattle.std.proofs.Common.{◌≡◌, ◌+◌, drop}
use Rattle.interpolate.specs.Heads.{own}
use Rattle.interpolate.specs.Lengths.{literal_len}
use Rattle.interpolate.proofs.scan.literal_len.Given as goal

abbrev pub invariant-loop-at : goal.invariant-loop-at
invariant-loop-at l = l.at + literal_len (own l.inside (drop l.at l.text)) ≡ literal_len (own l.inside l.text)
