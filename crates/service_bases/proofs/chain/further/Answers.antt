use Rattle.std.proofs.Common.{Some}
use Rattle.std.proofs.lemmas.Result.{err_from_is_err_and}
use Rattle.service_bases.specs.Bases.{at_service}
use Rattle.service_bases.specs.declared.chain.NextLink.TheVariants.{Ended, Further}
use Rattle.service_bases.proofs.Links.{comes_back, goes_further}
use Rattle.service_bases.proofs.chain.further.Goals as goal

-- in this file: the base is the service of this name in it
pub returns-in_err-not_met-in-None-clause-given : goal.returns-in_err-not_met-in-None-clause-given
returns-in_err-not_met-in-None-clause-given c =
    let a = c.args in
    let p = err_from_is_err_and c.from_residual-in_err-not_met-in-None.result c.from_residual-in_err-not_met-in-None.ensures.1 in
    rw (p.1, p.2, c.in-None.is) (comes_back (at_service a.file.now a.base.service) a.layers (Further a.base.service a.layers) c.in_err-not_met-in-None.field-0.0
    (rw (c.in_ok-at-in-None.ensures, c.as_slice.ensures) at c.in_err-not_met-in-None.ensures.given))

pub returns-in_ok-not_met-in-None-clause-given : goal.returns-in_ok-not_met-in-None-clause-given
returns-in_ok-not_met-in-None-clause-given c =
    let a = c.args in
    rw c.in-None.is (goes_further (at_service a.file.now a.base.service) a.layers (Further a.base.service a.layers) (rw (c.in_ok-at-in-None.ensures, c.as_slice.ensures) at c.in_ok-not_met-in-None.ensures.given))

-- in another file
pub returns-in_err-not_met-in-Some-clause-given : goal.returns-in_err-not_met-in-Some-clause-given
returns-in_err-not_met-in-Some-clause-given c =
    let a = c.args in
    let at = at_service c.in-Some.other a.base.service in
    let p = err_from_is_err_and c.from_residual-in_err-not_met-in-Some.result c.from_residual-in_err-not_met-in-Some.ensures.1 in
    rw (p.1, p.2, c.in-Some.is) (comes_back at a.layers (Ended (record { layers = a.layers; next = Some at })) c.in_err-not_met-in-Some.field-0.0
    (rw c.as_slice-in-Some.ensures at c.in_err-not_met-in-Some.ensures.given))

pub returns-in_ok-not_met-in-Some-clause-given : goal.returns-in_ok-not_met-in-Some-clause-given
returns-in_ok-not_met-in-Some-clause-given c =
    let a = c.args in
    let at = at_service c.in-Some.other a.base.service in
    rw c.in-Some.is (goes_further at a.layers (Ended (record { layers = a.layers; next = Some at })) (rw c.as_slice-in-Some.ensures at c.in_ok-not_met-in-Some.ensures.given))
