use Rattle.std.proofs.Common.{◌≡◌, take}
use Rattle.memory_engine.specs.Listing.{network_names}
use Rattle.memory_engine.proofs.listing.names_of.Given as goal

abbrev pub invariant-loop-id : goal.invariant-loop-id
invariant-loop-id l = l.names.items ≡ network_names l.engine (take l.id-index l.ids)
