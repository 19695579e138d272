use Rattle.std.proofs.Common.{◌≡◌, false, take}
use Rattle.std.specs.List.{list_any}
use Rattle.std.specs.Prelude.{is_some}
use Rattle.rolling_update.proofs.adding.any_rolls.Given as goal

abbrev pub invariant-loop-service : goal.invariant-loop-service
invariant-loop-service l = list_any (λ service. is_some service.roll) (take l.service-index l.services) ≡ false
