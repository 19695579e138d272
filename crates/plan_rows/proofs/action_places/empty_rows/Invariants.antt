use Rattle.std.proofs.Common.{◌≡◌, None, replicate}
use Rattle.plan_rows.proofs.action_places.empty_rows.Given as goal

abbrev pub invariant-loop : goal.invariant-loop
invariant-loop l = l.places.items ≡ replicate l.counter None
