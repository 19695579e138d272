-- A name that is put is given, and what was given stays so.
use Rattle.memory_engine.proofs.Naming.{is_given, stays_given}
use Rattle.memory_engine.proofs.names.Names.note_name.Goals as goal

pub returns-in-Some-clause-noted : goal.returns-in-Some-clause-noted
returns-in-Some-clause-noted c = is_given _ c.is_new.new.given c.args.name.now tt c.is_new.result c.is_new.ensures.ok

pub returns-in-Some-clause-kept : goal.returns-in-Some-clause-kept
returns-in-Some-clause-kept c = λ other was.
    stays_given _ c.is_new.new.given c.args.name.now tt c.is_new.result c.is_new.ensures.ok c.is_new.ensures.err other (rw c.in-Some.is at was)
