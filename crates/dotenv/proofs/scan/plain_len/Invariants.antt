use Rattle.std.proofs.Common.{◌≡◌, ◌+◌, drop, false}
use Rattle.dotenv.specs.Characters.{plain_len}
use Rattle.dotenv.proofs.scan.plain_len.Given as goal

abbrev pub invariant-loop-at : goal.invariant-loop-at
invariant-loop-at l = l.at + plain_len l.blank (drop l.at l.chars) ≡ plain_len false l.chars
