use Rattle.engine_replies.proofs.Tables.{ended, then}
use Rattle.engine_replies.proofs.rows.NetRowToJson.json.Goals as goal

pub returns : goal.returns
returns c =
    ended c.end.result c.new-row.ensures
    (then c.value.ensures
    (then c.mapping.ensures
    c.value-2.ensures))
    c.end.ensures
