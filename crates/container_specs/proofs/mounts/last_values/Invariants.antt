use Rattle.std.proofs.Common.{◌≡◌, map, take}
use Rattle.container_specs.specs.Mounts.{last_value}
use Rattle.container_specs.proofs.mounts.last_values.Given as goal

abbrev pub invariant-loop-name : goal.invariant-loop-name
invariant-loop-name l = l.last ≡ map (λ path. record { name = path; value = last_value l.vars path }) (take l.name-index l.names)
