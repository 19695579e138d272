use Rattle.engine_bodies.proofs.Tables.{ended, then}
use Rattle.engine_bodies.proofs.rows.RestartPolicyToJson.json.Goals as goal

pub returns : goal.returns
returns c =
    ended c.end.result c.new-policy.ensures
    (then c.option.ensures
    (c.value.ensures))
    c.end.ensures
