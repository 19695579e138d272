use Rattle.engine_bodies.proofs.Tables.{ended, then}
use Rattle.engine_bodies.proofs.rows.LogConfigToJson.json.Goals as goal

pub returns : goal.returns
returns c =
    ended c.end.result c.new-logging.ensures
    (then c.mapping_if.ensures
    (c.option.ensures))
    c.end.ensures
