use Rattle.std.proofs.Common.{◌≡◌, take}
use Rattle.std.specs.Prelude.{filter}
use Rattle.plan_core.specs.Finding.{is_needed_at}
use Rattle.plan_core.proofs.planner.Planner.needed_among.Given as goal

abbrev pub invariant-loop-place : goal.invariant-loop-place
invariant-loop-place l = l.needs ≡ filter (is_needed_at l.self l.kinds l.kind) (take l.place-index l.places)
