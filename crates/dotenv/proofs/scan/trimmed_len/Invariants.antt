use Rattle.std.proofs.Common.{◌≡◌, ◌+◌, ◌≤◌, drop, cond, eqb}
use Rattle.dotenv.specs.Characters.{trimmed_len}
use Rattle.dotenv.proofs.scan.trimmed_len.Given as goal

abbrev pub invariant-loop-at : goal.invariant-loop-at
invariant-loop-at l = (l.end ≤ l.at) × (cond (eqb (trimmed_len (drop l.at l.chars)) 0) l.end (l.at + trimmed_len (drop l.at l.chars)) ≡ trimmed_len l.chars)
