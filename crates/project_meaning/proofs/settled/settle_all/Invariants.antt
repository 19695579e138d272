use Rattle.std.proofs.Common.{◌≡◌, ◌++◌, drop, map, take}
use Rattle.project_meaning.specs.Completing.{settled}
use Rattle.project_meaning.proofs.settled.settle_all.Given as goal

abbrev pub invariant-loop-service : goal.invariant-loop-service
invariant-loop-service l =
    l.service-items ≡ map (settled l.keys) (take l.service-index l.fn.services.items) ++ drop l.service-index l.fn.services.items
