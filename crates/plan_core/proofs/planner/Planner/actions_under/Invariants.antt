use Rattle.std.proofs.Common.{◌≡◌, take}
use Rattle.plan_core.specs.Finding.{texts_of}
use Rattle.plan_core.specs.Index.{places_under, seen_entries}
use Rattle.plan_core.proofs.planner.Planner.actions_under.Given as goal

abbrev pub invariant-loop-at : goal.invariant-loop-at
invariant-loop-at l = seen_entries l.entries.items ≡ places_under (texts_of l.self) 0 (take l.at l.kinds)
