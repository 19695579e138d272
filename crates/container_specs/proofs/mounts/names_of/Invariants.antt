use Rattle.std.proofs.Common.{◌≡◌, map, take}
use Rattle.container_specs.proofs.mounts.names_of.Given as goal

abbrev pub invariant-loop-var : goal.invariant-loop-var
invariant-loop-var l = l.names ≡ map (λ var. var.name) (take l.var-index l.vars)
