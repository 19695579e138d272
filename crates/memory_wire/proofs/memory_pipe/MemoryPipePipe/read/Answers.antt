use Rattle.std.proofs.Common.{ap, arith, ◌∙◌, take, drop}
use Rattle.std.proofs.lemmas.List.{length-take-le}
use Rattle.memory_wire.specs.declared.memory_pipe.MemoryPipe.{MemoryPipe}
use Rattle.memory_wire.proofs.Giving.{given_more}
use Rattle.memory_wire.proofs.memory_pipe.MemoryPipePipe.read.Goals as goal

pub returns-else-count-eq0-clause-told : goal.returns-else-count-eq0-clause-told
returns-else-count-eq0-clause-told c =
    let same = c.next_size-size.ensures.same in
    given_more c.next_size-size.new.self.written.items c.args.self.now.written.items c.next_size-size.new.self.gives c.args.self.now.gives c.copy_from_slice.new.self _
    c.next_size-size.new.self.given c.args.self.now.given c.min-count.result c.next_size-size.new.self.ended c.args.self.now.ended
    (ap (λ (p : MemoryPipe). p.written.items) same) (ap (λ (p : MemoryPipe). p.gives) same) (ap (λ (p : MemoryPipe). p.given) same) (ap (λ (p : MemoryPipe). p.ended) same)
    (c.copy_from_slice.ensures.after ∙ ap (take c.min-count.result) (c.split_at.ensures.back ∙ ap (drop c.next_size-size.new.self.given) c.as_slice.ensures))
    (c.copy_from_slice.ensures.len ∙ length-take-le c.min-count.result c.args.room.now (omega (arith, c.min-count.ensures, c.min.ensures))) (omega (arith, c.if-count-eq0.false))
