use Rattle.std.specs.Prelude.{codes}
use Rattle.engine_bodies.specs.Json.{array_of}
use Rattle.engine_replies.specs.Values.{volume_value}
use Rattle.engine_replies.proofs.Tables.{ended, made_is}
use Rattle.engine_replies.proofs.rows.volumes_json.Goals as goal

pub returns : goal.returns
returns c =
    ended c.end.result c.new-object.ensures
    (made_is (array_of volume_value c.args.names.now) (codes "Volumes") c.volume_rows.result c.made.ensures c.volume_rows.ensures)
    c.end.ensures
