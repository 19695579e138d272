use Rattle.std.proofs.Common.{◌≡◌, map, take}
use Rattle.container_specs.specs.Host.{device_of}
use Rattle.container_specs.proofs.host.devices_in.Given as goal

abbrev pub invariant-loop-text : goal.invariant-loop-text
invariant-loop-text l = l.devices ≡ map device_of (take l.text-index l.texts)
