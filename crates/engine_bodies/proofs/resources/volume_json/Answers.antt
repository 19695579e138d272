use Rattle.engine_bodies.proofs.Tables.{ended, then}
use Rattle.engine_bodies.proofs.resources.volume_json.Goals as goal

pub returns : goal.returns
returns c =
    ended c.end.result c.new-volume.ensures
    (then c.option.ensures
    (then c.mapping_if.ensures
    (then c.mapping.ensures
    (c.value.ensures))))
    c.end.ensures
