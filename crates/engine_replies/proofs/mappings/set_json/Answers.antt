use Rattle.engine_replies.proofs.Tables.{ended}
use Rattle.engine_replies.proofs.mappings.set_json.Goals as goal

pub returns : goal.returns
returns c = ended c.end.result c.new-object.ensures c.names.ensures c.end.ensures
