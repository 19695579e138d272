-- An answer is one that an Engine may give, and it keeps the Engine's rules.
use Rattle.std.proofs.Common.{arith}
use Rattle.engine_types.specs.declared.ContainerRow.{ContainerRow}
use Rattle.memory_engine.specs.Naming.{may_be_taken, name_given}
use Rattle.memory_engine.proofs.AnyAll.{all-weaker}
use Rattle.memory_engine.proofs.Answering.{answered_so}
use Rattle.memory_engine.proofs.KeepsServed.{keeps_answered}
use Rattle.memory_engine.proofs.Naming.{names_are_free}
use Rattle.memory_engine.proofs.state.MemoryEngine.serve.Goals as goal

pub answer-requires-clause-ids : goal.answer-requires-clause-ids
answer-requires-clause-ids c = c.args.self.now.kept.sound.container_ids

pub answer-requires-clause-new : goal.answer-requires-clause-new
answer-requires-clause-new c = λ is_new.
    names_are_free (may_be_taken c.args.self.now.names) c.args.self.now.engine.containers (name_given c.args.request.now)
    (c.in_ok-is_new.ensures.new is_new) c.args.self.now.taken

pub invariant_of-self : goal.invariant_of-self
invariant_of-self c = record {
  kept = c.args.self.now.kept;
  taken = all-weaker (λ (row : ContainerRow). may_be_taken c.args.self.now.names row.name) (λ row. may_be_taken c.note.new.self row.name)
      (λ row. c.note.ensures.kept row.name) c.args.self.now.engine.containers c.args.self.now.taken;
}

pub invariant_of-self-2 : goal.invariant_of-self-2
invariant_of-self-2 c =
    let taken = all-weaker (λ (row : ContainerRow). may_be_taken c.args.self.now.names row.name) (λ row. may_be_taken c.note.new.self row.name)
    (λ row. c.note.ensures.kept row.name) c.args.self.now.engine.containers c.args.self.now.taken in
    let holds = keeps_answered (may_be_taken c.note.new.self) c.args.self.now.catalogue c.args.self.now.engine c.args.request.now c.answer.new.engine c.answer.result
    (omega arith) c.in_ok-is_new.ensures.noted (c.args.self.now.kept, taken) c.answer.ensures.ok c.answer.ensures.err in
    record { kept = holds.0; taken = holds.1 }

pub returns-clause-answers : goal.returns-clause-answers
returns-clause-answers c =
    answered_so c.args.self.now.catalogue c.args.self.now.engine c.args.request.now c.answer.new.engine c.answer.result
    (omega arith) c.args.self.now.kept c.answer.ensures.ok
