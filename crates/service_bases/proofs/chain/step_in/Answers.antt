use Rattle.std.proofs.lemmas.Result.{err_from_is_err_and}
use Rattle.service_bases.proofs.Links.{no_service, service_there}
use Rattle.service_bases.proofs.chain.step_in.Goals as goal

pub returns-in_err-service-clause-given : goal.returns-in_err-service-clause-given
returns-in_err-service-clause-given c =
    let a = c.args in
    let p = err_from_is_err_and c.from_residual.result c.from_residual.ensures.1 in
    rw (p.1, p.2) (no_service a.env.now a.source.now a.name.now a.layers c.in_err-service.field-0.0 c.in_err-service.ensures.given)

pub returns-clause-given : goal.returns-clause-given
returns-clause-given c =
    let a = c.args in
    service_there a.env.now a.source.now a.name.now a.layers c.in_ok-service.service c.in_ok-layers.layers c.in_ok-base.base c.followed.result
    c.in_ok-service.ensures.given c.in_ok-layers.ensures c.in_ok-base.ensures c.followed.ensures.given
