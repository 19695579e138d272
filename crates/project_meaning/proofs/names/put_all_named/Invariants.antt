use Rattle.std.proofs.Common.{◌≡◌, ◌++◌, take}
use Rattle.std.specs.List.{flat_map}
use Rattle.project_meaning.specs.Names.{named}
use Rattle.project_meaning.proofs.names.put_all_named.Given as goal

abbrev pub invariant-loop-service : goal.invariant-loop-service
invariant-loop-service l = l.names.items ≡ l.fn.names.items ++ flat_map (named l.kind) (take l.service-index l.services)
