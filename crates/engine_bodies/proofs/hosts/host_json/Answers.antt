use Rattle.engine_bodies.proofs.Tables.{ended_if_any, then}
use Rattle.engine_bodies.proofs.hosts.host_json.Goals as goal

pub returns : goal.returns
returns c =
    ended_if_any c.end_if_any.result c.new-host.ensures (then (then c.rights.ensures c.limits.ensures) c.ties.ensures) c.end_if_any.ensures
