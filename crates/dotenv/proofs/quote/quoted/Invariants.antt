use Rattle.std.proofs.Common.{◌≡◌, ◌-◌, ◌≤◌, length, drop}
use Rattle.dotenv.specs.Quotes.{quoted_of, spelled}
use Rattle.dotenv.proofs.Quoting.{more}
use Rattle.dotenv.proofs.quote.quoted.Given as goal

abbrev pub invariant-loop-at : goal.invariant-loop-at
invariant-loop-at l = record { within : l.at ≤ length l.chars; is : more l.text l.at (quoted_of l.quote (drop l.at l.chars)) ≡ spelled (quoted_of l.quote l.chars) }

abbrev pub decreases-loop-at : goal.decreases-loop-at
decreases-loop-at l = length l.chars - l.at
