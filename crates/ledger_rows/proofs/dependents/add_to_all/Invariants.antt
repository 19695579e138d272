use Rattle.std.proofs.Common.{◌≡◌, ℕ, ◌+◌, ◌==◌, [], take, get_or, if◌then◌else◌}
use Rattle.ledger_rows.specs.Counts.{counted}
use Rattle.ledger_rows.proofs.dependents.add_to_all.Given as goal

abbrev pub invariant-loop-need : goal.invariant-loop-need
invariant-loop-need l = (x a : ℕ) → counted (λ b. b == a) (get_or l.rows x []) ≡ counted (λ b. b == a) (get_or l.initial.rows x []) + (if l.action == a then counted (λ b. b == x) (take l.need-index l.needs) else 0)
