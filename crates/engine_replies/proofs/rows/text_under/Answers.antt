use Rattle.engine_replies.proofs.Tables.{ended}
use Rattle.engine_replies.proofs.rows.text_under.Goals as goal

pub returns : goal.returns
returns c = ended c.end.result c.new-object.ensures c.text.ensures c.end.ensures
