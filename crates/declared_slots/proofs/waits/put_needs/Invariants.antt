use Rattle.std.proofs.Common.{◌≡◌, ◌++◌, map}
use Rattle.std.specs.List.{range_with_len}
use Rattle.declared_slots.specs.Needs.{need_of}
use Rattle.declared_slots.proofs.waits.put_needs.Given as goal

abbrev pub invariant-loop-before : goal.invariant-loop-before
invariant-loop-before l = l.needs ≡ l.fn.needs ++ map (need_of l.dependency) (range_with_len l.range.first l.before)
