use Rattle.std.proofs.Common.{drop}
use Rattle.std.specs.List.{AllByRecursion}
use Rattle.service_bases.specs.Bases.{Alone}
use Rattle.service_bases.proofs.base.are_alone.Given as goal

-- where those that are left are alone, all are
abbrev pub invariant-loop-service : goal.invariant-loop-service
invariant-loop-service l =
    AllByRecursion Alone (drop l.service-index l.services) → AllByRecursion Alone l.services
