use Rattle.std.proofs.Common.{◌∙◌, ap, sym, subst}
use Rattle.service_bases.specs.Known.{IsWhole}
use Rattle.service_bases.proofs.KnownServices.{alone_whole, one_more_whole}
use Rattle.service_bases.proofs.known.met_service.Goals as goal

pub returns-in_ok-put-in-None-clause-known : goal.returns-in_ok-put-in-None-clause-known
returns-in_ok-put-in-None-clause-known c =
    let a = c.args in
    one_more_whole a.env.now a.source.now a.known.now c.put.new.self a.name.now _ (rw c.in_ok-copy-in-None.ensures at c.in_ok-put-in-None.ensures.ok) c.requires.known
    (alone_whole a.env.now a.source.now a.name.now a.service c.in_ok-last-in-None.last c.in_ok-last-in-None.ensures c.requires.found (sym c.in_ok-base.ensures ∙ c.in-None.is) c.requires.some)
