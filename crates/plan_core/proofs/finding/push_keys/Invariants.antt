use Rattle.std.proofs.Common.{◌≡◌, ◌++◌, take}
use Rattle.plan_core.specs.Index.{seen_entries, under_each}
use Rattle.plan_core.proofs.finding.push_keys.Given as goal

abbrev pub invariant-loop-key : goal.invariant-loop-key
invariant-loop-key l = seen_entries l.entries.items ≡ seen_entries l.initial.entries.items ++ under_each (take l.key-index l.keys) l.at
