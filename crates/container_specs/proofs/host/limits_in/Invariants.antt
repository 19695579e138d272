use Rattle.std.proofs.Common.{◌≡◌, map, take}
use Rattle.container_specs.specs.Host.{limit_of}
use Rattle.container_specs.proofs.host.limits_in.Given as goal

abbrev pub invariant-loop-limit : goal.invariant-loop-limit
invariant-loop-limit l = l.made ≡ map limit_of (take l.limit-index l.limits)
