-- Where no name is known, each may be taken.
use Rattle.engine_types.specs.declared.ContainerRow.{ContainerRow}
use Rattle.memory_engine.specs.Naming.{may_be_taken}
use Rattle.memory_engine.proofs.AnyAll.{all-from_among}
use Rattle.memory_engine.proofs.state.MemoryEngine.holding.Goals as goal

pub invariant_of-result : goal.invariant_of-result
invariant_of-result c = record {
  kept = c.requires;
  taken = all-from_among (λ (row : ContainerRow). may_be_taken c.unknown.result row.name) c.args.engine.containers (λ row among. c.unknown.ensures row.name);
}
