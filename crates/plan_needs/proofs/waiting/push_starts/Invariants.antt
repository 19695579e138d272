use Rattle.std.proofs.Common.{◌≡◌, ℕ, ◌+◌, ◌==◌, take}
use Rattle.ledger_rows.specs.Counts.{counted}
use Rattle.plan_needs.specs.Waits.{waits_for}
use Rattle.plan_needs.proofs.waiting.push_starts.Given as goal

abbrev pub invariant-loop-need : goal.invariant-loop-need
invariant-loop-need l = (x : ℕ) → counted (λ b. b == x) l.list ≡ counted (λ b. b == x) l.initial.list + counted (waits_for l.wait l.starts x) (take l.need-index l.needs)
