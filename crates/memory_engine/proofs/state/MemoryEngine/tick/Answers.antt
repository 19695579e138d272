-- A tick is an own change of the Engine, or none.
use Rattle.std.proofs.Common.{◌∷◌}
use Rattle.memory_engine.specs.Naming.{may_be_taken}
use Rattle.memory_engine.proofs.Drifting.{ticked_drifts, ticked_given, ticked_keeps}
use Rattle.memory_engine.proofs.state.MemoryEngine.tick.Goals as goal

pub invariant_of-self : goal.invariant_of-self
invariant_of-self c = record {
  kept = rw c.apply.ensures (ticked_keeps c.args.self.now.engine (c.in-Some.tick ∷ c.take_first.new.script) c.args.self.now.kept);
  taken = rw c.apply.ensures (ticked_given (may_be_taken c.args.self.now.names) c.args.self.now.engine (c.in-Some.tick ∷ c.take_first.new.script) c.args.self.now.taken);
}

pub returns-in-Some-clause-drifts : goal.returns-in-Some-clause-drifts
returns-in-Some-clause-drifts c =
    rw c.apply.ensures (ticked_drifts c.args.self.now.engine (c.in-Some.tick ∷ c.take_first.new.script) c.args.self.now.kept)
