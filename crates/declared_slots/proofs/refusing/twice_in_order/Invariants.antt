use Rattle.std.proofs.Common.{◌≡◌, drop}
use Rattle.declared_slots.specs.Refusing.{twice_behind, twice_in_order}
use Rattle.declared_slots.proofs.refusing.twice_in_order.Given as goal

abbrev pub invariant-loop-name : goal.invariant-loop-name
invariant-loop-name l = twice_behind l.before (drop l.name-index l.others) ≡ twice_in_order l.names
