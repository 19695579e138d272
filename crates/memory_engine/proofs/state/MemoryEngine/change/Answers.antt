-- A change of one container is an own change of the Engine, or none.
use Rattle.memory_engine.specs.Naming.{may_be_taken}
use Rattle.memory_engine.proofs.Drifting.{own_drifts, own_given, own_keeps}
use Rattle.memory_engine.proofs.state.MemoryEngine.change.Goals as goal

pub change_of-requires : goal.change_of-requires
change_of-requires c = c.args.self.now.kept.sound.container_ids

pub invariant_of-self : goal.invariant_of-self
invariant_of-self c = record {
  kept = rw c.change_of.ensures (own_keeps c.args.self.now.engine c.args.id.now c.args.change c.args.self.now.kept);
  taken = rw c.change_of.ensures (own_given (may_be_taken c.args.self.now.names) c.args.self.now.engine c.args.id.now c.args.change c.args.self.now.taken);
}

pub returns-clause-drifts : goal.returns-clause-drifts
returns-clause-drifts c = rw c.change_of.ensures (own_drifts c.args.self.now.engine c.args.id.now c.args.change c.args.self.now.kept)
