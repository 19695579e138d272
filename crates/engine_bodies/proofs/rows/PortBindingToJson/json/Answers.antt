use Rattle.engine_bodies.proofs.Tables.{ended, then}
use Rattle.engine_bodies.proofs.rows.PortBindingToJson.json.Goals as goal

pub returns : goal.returns
returns c =
    ended c.end.result c.new-binding.ensures
    (then c.option.ensures
    (c.option-2.ensures))
    c.end.ensures
