use Rattle.std.proofs.Common.{sym}
use Rattle.service_bases.proofs.Links.{found_there, not_found}
use Rattle.service_bases.proofs.source.service_in.Goals as goal

pub returns-in-Some-clause-given : goal.returns-in-Some-clause-given
returns-in-Some-clause-given c =
    let a = c.args in
    found_there a.env.now a.source.now a.name.now c.in-Some.service.now c.placed_service.result (sym c.in-Some.ensures) c.placed_service.ensures.given

pub returns-in_ok-copy-in-None-2-clause-given : goal.returns-in_ok-copy-in-None-2-clause-given
returns-in_ok-copy-in-None-2-clause-given c =
    let a = c.args in
    rw (c.in_ok-copy-in-None.ensures, c.in_ok-copy-in-None-2.ensures) (not_found a.env.now a.source.now a.name.now (sym c.in-None.ensures))
