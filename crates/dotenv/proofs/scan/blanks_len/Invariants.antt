use Rattle.std.proofs.Common.{◌≡◌, ◌+◌, drop}
use Rattle.dotenv.specs.Characters.{blanks_len}
use Rattle.dotenv.proofs.scan.blanks_len.Given as goal

abbrev pub invariant-loop-at : goal.invariant-loop-at
invariant-loop-at l = l.at + blanks_len (drop l.at l.chars) ≡ blanks_len l.chars
