use Rattle.engine_replies.proofs.Tables.{ended}
use Rattle.engine_replies.proofs.mappings.mapping_json.Goals as goal

pub returns : goal.returns
returns g c = ended c.end.result c.new-object.ensures c.items.ensures c.end.ensures
