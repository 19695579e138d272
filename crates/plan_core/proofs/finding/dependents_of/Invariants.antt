use Rattle.std.proofs.Common.{◌≡◌, take}
use Rattle.plan_core.specs.Index.{places_under, seen_entries}
use Rattle.plan_core.proofs.finding.dependents_of.Given as goal

abbrev pub invariant-loop-at : goal.invariant-loop-at
invariant-loop-at l = seen_entries l.entries.items ≡ places_under (λ service. service.depends_on) 0 (take l.at l.declared.services)
