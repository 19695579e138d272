use Rattle.engine_bodies.proofs.Tables.{ended, then}
use Rattle.engine_bodies.proofs.rows.DeviceToJson.json.Goals as goal

pub returns : goal.returns
returns c =
    ended c.end.result c.new-device.ensures
    (then c.value.ensures
    (then c.value-2.ensures
    (c.value-3.ensures)))
    c.end.ensures
