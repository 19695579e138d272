-- An id is new where no entry has it, and is then the last of the known ones.
use Rattle.world_laws.proofs.FoundRows.{keys_after, new_is}
use Rattle.world_laws.proofs.look_ups.is_new.Goals as goal

pub returns-clause-new : goal.returns-clause-new
returns-clause-new c = new_is c.args.ids.now c.put.new.self c.in_ok-key.key c.args.id.now c.in_ok-before.before c.is_none.result c.in_ok-key.ensures c.in_ok-before.ensures.old c.is_none.ensures

pub returns-clause-known : goal.returns-clause-known
returns-clause-known c =
    keys_after c.args.ids.now c.put.new.self c.in_ok-key.key c.args.id.now c.in_ok-before.before c.is_none.result c.in_ok-key.ensures c.in_ok-before.ensures.old c.is_none.ensures tt c.in_ok-before.ensures.ok
