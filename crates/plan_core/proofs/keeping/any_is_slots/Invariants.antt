use Rattle.std.proofs.Common.{◌≡◌, false, take}
use Rattle.std.specs.List.{list_any}
use Rattle.plan_core.specs.Keeping.{is_slots_at}
use Rattle.plan_core.proofs.keeping.any_is_slots.Given as goal

abbrev pub invariant-loop-place : goal.invariant-loop-place
invariant-loop-place l = list_any (is_slots_at l.declared l.seen l.slot) (take l.place-index l.places) ≡ false
