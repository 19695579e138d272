use Rattle.engine_bodies.proofs.Tables.{ended}
use Rattle.engine_bodies.proofs.containers.endpoints_json.Goals as goal

pub returns : goal.returns
returns c =
    ended c.end.result c.new-networking.ensures
    (c.mapping.ensures)
    c.end.ensures
