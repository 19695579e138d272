use Rattle.engine_bodies.proofs.Tables.{ended}
use Rattle.engine_bodies.proofs.mappings.set_json.Goals as goal

pub returns : goal.returns
returns c = ended c.end.result c.new-object.ensures c.names.ensures c.end.ensures
