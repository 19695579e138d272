use Rattle.std.proofs.Common.{◌≡◌, take}
use Rattle.std.specs.List.{flat_map}
use Rattle.container_specs.specs.Process.{setting_of}
use Rattle.container_specs.proofs.process.settings_of.Given as goal

abbrev pub invariant-loop-at : goal.invariant-loop-at
invariant-loop-at l = l.settings ≡ flat_map (λ pair. setting_of pair.0 pair.1) (take l.at l.pairs)
