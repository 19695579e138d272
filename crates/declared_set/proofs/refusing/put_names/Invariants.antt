use Rattle.std.proofs.Common.{◌≡◌, ◌++◌, map}
use Rattle.std.specs.List.{range_with_len}
use Rattle.declared_slots.specs.Named.{name_of}
use Rattle.declared_set.proofs.refusing.put_names.Given as goal

abbrev pub invariant-loop-before : goal.invariant-loop-before
invariant-loop-before l = l.names.items ≡ l.fn.names.items ++ map (name_of l.project l.service) (range_with_len 1 l.before)
