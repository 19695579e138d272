-- A name is new where nothing stood under it.
use Rattle.memory_engine.proofs.Naming.{is_new}
use Rattle.memory_engine.proofs.names.is_new.Goals as goal

pub returns-clause-new : goal.returns-clause-new
returns-clause-new c =
    is_new c.args.given.now c.in_ok-key.key c.args.name.now c.in_ok-before.before c.is_none.result c.in_ok-key.ensures c.in_ok-before.ensures.old c.is_none.ensures
