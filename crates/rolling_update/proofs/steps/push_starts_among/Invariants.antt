use Rattle.std.proofs.Common.{◌≡◌, ◌++◌, take}
use Rattle.std.specs.Prelude.{filter}
use Rattle.rolling_update.specs.Needs.{starts_at}
use Rattle.rolling_update.proofs.steps.push_starts_among.Given as goal

abbrev pub invariant-loop-place : goal.invariant-loop-place
invariant-loop-place l = l.added.items ≡ l.initial.added.items ++ filter (starts_at l.actions l.number) (take l.place-index l.places)
