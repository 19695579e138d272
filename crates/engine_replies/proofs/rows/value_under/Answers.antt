use Rattle.engine_replies.proofs.Tables.{ended}
use Rattle.engine_replies.proofs.rows.value_under.Goals as goal

pub returns : goal.returns
returns g c = ended c.end.result c.new-object.ensures c.value.ensures c.end.ensures
