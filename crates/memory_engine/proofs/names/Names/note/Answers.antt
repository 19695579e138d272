-- A request that makes no container gives no name.
use Rattle.memory_engine.proofs.Naming.{gives_none}
use Rattle.memory_engine.proofs.names.Names.note.Goals as goal

pub returns-in_default-clause-noted : goal.returns-in_default-clause-noted
returns-in_default-clause-noted c = rw (gives_none c.args.request.now c.in_default.not-Create) tt
