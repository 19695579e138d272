use Rattle.std.proofs.Common.{◌≡◌, ◌++◌, take, drop}
use Rattle.memory_engine.specs.Listing.{with_name}
use Rattle.memory_engine.proofs.listing.put_name.Given as goal

abbrev pub invariant-loop-at : goal.invariant-loop-at
invariant-loop-at l = with_name l.other-items l.name ≡ take l.at l.other-items ++ with_name (drop l.at l.other-items) l.name
