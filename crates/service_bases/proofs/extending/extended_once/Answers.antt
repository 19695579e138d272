use Rattle.std.proofs.lemmas.Result.{err_from_is_err_and}
use Rattle.service_bases.proofs.KnownServices.{gives_extended}
use Rattle.service_bases.proofs.extending.extended_once.Goals as goal

pub returns-in-Some-clause-given : goal.returns-in-Some-clause-given
returns-in-Some-clause-given g c =
    let a = c.args in
    gives_extended (g.F.Files.told a.files.now) a.env.now a.source.now a.name.now c.in-Some.service a.left (rw c.in-Some.is at c.in_ok-service.ensures.extended)

pub returns-in-Some-clause-reads : goal.returns-in-Some-clause-reads
returns-in-Some-clause-reads g c = λ well. well
