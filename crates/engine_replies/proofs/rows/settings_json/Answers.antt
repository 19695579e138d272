use Rattle.engine_replies.proofs.Tables.{ended}
use Rattle.engine_replies.proofs.rows.settings_json.Goals as goal

pub returns : goal.returns
returns c = ended c.end.result c.new-settings.ensures c.set.ensures c.end.ensures
