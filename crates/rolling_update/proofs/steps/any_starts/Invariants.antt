use Rattle.std.proofs.Common.{◌≡◌, false, take}
use Rattle.std.specs.List.{list_any}
use Rattle.rolling_update.specs.Needs.{starts_at}
use Rattle.rolling_update.proofs.steps.any_starts.Given as goal

abbrev pub invariant-loop-place : goal.invariant-loop-place
invariant-loop-place l = list_any (starts_at l.actions l.number) (take l.place-index l.places) ≡ false
