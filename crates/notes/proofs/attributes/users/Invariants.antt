use Rattle.std.proofs.Common.{◌≡◌, take}
use Rattle.std.specs.Prelude.{flat_map}
use Rattle.notes.specs.Attributes.{user_name}
use Rattle.notes.proofs.attributes.users.Given as goal

abbrev pub invariant-loop-service : goal.invariant-loop-service
invariant-loop-service l = l.names ≡ flat_map (user_name l.section l.key) (take l.service-index l.services)
