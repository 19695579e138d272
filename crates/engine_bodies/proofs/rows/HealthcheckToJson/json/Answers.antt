use Rattle.engine_bodies.proofs.Tables.{ended, then}
use Rattle.engine_bodies.proofs.rows.HealthcheckToJson.json.Goals as goal

pub returns : goal.returns
returns c =
    ended c.end.result c.new-check.ensures
    (then c.option.ensures
    (then c.option-2.ensures
    (then c.option-3.ensures
    (then c.option-4.ensures
    (c.option-5.ensures)))))
    c.end.ensures
