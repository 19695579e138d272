use Rattle.engine_bodies.proofs.Tables.{ended}
use Rattle.engine_bodies.proofs.rows.endpoint_json.Goals as goal

pub returns : goal.returns
returns c =
    ended c.end.result c.new-endpoint.ensures
    (c.value.ensures)
    c.end.ensures
