use Rattle.std.proofs.Common.{◌≡◌, ℕ, ◌+◌, ◌<◌, ◌==◌, [], take, get_or, length, if◌then◌else◌}
use Rattle.ledger_rows.specs.Counts.{counted}
use Rattle.start_rows.specs.Asks.{asked_by}
use Rattle.start_rows.proofs.asking.add_asks.Given as goal

abbrev pub invariant-loop-need : goal.invariant-loop-need
invariant-loop-need l = (s a : ℕ) → s < length l.initial.rows → counted (λ b. b == a) (get_or l.rows s []) ≡ counted (λ b. b == a) (get_or l.initial.rows s []) + (if l.action == a then counted (asked_by l.ask s l.condition) (take l.need-index l.needs) else 0)
