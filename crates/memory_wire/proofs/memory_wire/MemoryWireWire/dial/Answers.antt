use Rattle.std.proofs.Common.{rules}
use Rattle.memory_wire.proofs.Dialling.{first_removed}
use Rattle.memory_wire.proofs.memory_wire.MemoryWireWire.dial.Goals as goal

pub returns-clause-next : goal.returns-clause-next
returns-clause-next c = (
  search rules,
  (
    c.remove-pipe.result,
    first_removed c.args.self.now.pipes c.remove-pipe.new.self c.remove-pipe.result c.remove-pipe.ensures.item c.remove-pipe.ensures.rest,
    record {
      gives = c.begin_anew.ensures.gives;
      sizes = c.begin_anew.ensures.sizes;
      room = c.begin_anew.ensures.room;
      fails = c.begin_anew.ensures.fails;
      calls = c.begin_anew.ensures.calls;
    },
  ),
)
