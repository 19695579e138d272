use Rattle.engine_bodies.proofs.Tables.{then}
use Rattle.engine_bodies.proofs.hosts.limits.Goals as goal

pub returns : goal.returns
returns c =
    then c.option.ensures
    (then c.option-2.ensures
    (then c.option-3.ensures
    (then c.option-4.ensures
    (then c.option-5.ensures
    (then c.option-6.ensures
    (then c.option-7.ensures
    (then c.option-8.ensures
    (then c.option-9.ensures
    (then c.option-10.ensures
    (c.option-11.ensures))))))))))
