use Rattle.std.proofs.Common.{◌≡◌, map, slice_get, take}
use Rattle.std.specs.Option.{option_and_then}
use Rattle.run_model.specs.Plans.{kept_of}
use Rattle.plan_core.proofs.keeping.all_kept.Given as goal

abbrev pub invariant-loop-slot : goal.invariant-loop-slot
invariant-loop-slot l = map (option_and_then (slice_get l.seen.containers)) l.all.items ≡ map (kept_of l.declared l.seen) (take l.slot-index l.slot-items)
