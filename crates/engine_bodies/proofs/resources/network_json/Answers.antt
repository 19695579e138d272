use Rattle.engine_bodies.proofs.Tables.{ended, then}
use Rattle.engine_bodies.proofs.resources.network_json.Goals as goal

pub returns : goal.returns
returns c =
    ended c.end.result c.new-network.ensures
    (then c.option.ensures
    (then c.value.ensures
    (then c.option-2.ensures
    (then c.option-3.ensures
    (then c.option-4.ensures
    (then c.mapping.ensures
    (then c.value-2.ensures
    (c.mapping_if.ensures))))))))
    c.end.ensures
