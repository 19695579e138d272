use Rattle.std.proofs.Common.{◌≡◌, map, take}
use Rattle.run_model.specs.Plans.{is_updated}
use Rattle.plan_core.proofs.keeping.all_updated.Given as goal

abbrev pub invariant-loop-slot : goal.invariant-loop-slot
invariant-loop-slot l = l.all.items ≡ map (is_updated l.declared l.seen) (take l.slot-index l.slot-items)
