-- What holds nothing is sound, every id is free, and no name is taken.
use Rattle.std.proofs.Common.{refl}
use Rattle.memory_engine.proofs.Keeps.{keeps_nothing}
use Rattle.memory_engine.proofs.state.MemoryEngine.fresh.Goals as goal

pub invariant_of-result : goal.invariant_of-result
invariant_of-result c = record {
  kept = keeps_nothing _ c.new.ensures c.new-2.ensures c.new-3.ensures c.new-4.ensures;
  taken = rw c.new.ensures refl;
}
