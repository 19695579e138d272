use Rattle.std.proofs.Common.{◌≡◌, ◌+◌, drop}
use Rattle.dotenv.specs.Characters.{run_len}
use Rattle.dotenv.proofs.scan.run_len.Given as goal

abbrev pub invariant-loop-at : goal.invariant-loop-at
invariant-loop-at l = l.at + run_len (drop l.at l.chars) ≡ run_len l.chars
