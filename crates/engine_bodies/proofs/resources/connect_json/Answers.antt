use Rattle.std.proofs.Common.{codes}
use Rattle.engine_bodies.specs.Containers.{endpoint_value}
use Rattle.engine_bodies.proofs.Tables.{ended, made_is, then}
use Rattle.engine_bodies.proofs.resources.connect_json.Goals as goal

pub returns : goal.returns
returns c =
    ended c.end.result c.new-connect.ensures
    (then c.value.ensures
    ((made_is (endpoint_value c.args.aliases.now) (codes "EndpointConfig") c.endpoint_json.result c.made.ensures c.endpoint_json.ensures)))
    c.end.ensures
