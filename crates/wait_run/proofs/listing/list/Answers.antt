-- The listing was asked for, and each slot found in it; or the wait ended with it.
use Rattle.std.proofs.lemmas.Result.{err_from_is_err_and}
use Rattle.wait_run.proofs.Listings.{listing_short, listing_unsent, lists_not, lists_so}
use Rattle.wait_run.proofs.listing.list.Goals as goal

pub returns-in_err-project : goal.returns-in_err-project
returns-in_err-project g c =
    let p = err_from_is_err_and c.from_residual.result c.from_residual.ensures.1 in
    rw (p.1, p.2) (listing_short c.args.declared.now _)

pub returns-in_err-exchange : goal.returns-in_err-exchange
returns-in_err-exchange g c =
    let p = err_from_is_err_and c.from_residual-in_err-exchange.result c.from_residual-in_err-exchange.ensures.1 in
    rw (p.1, p.2) (listing_unsent c.args.declared.now _ _ c.in_err-exchange.ensures)

pub returns-in-Some : goal.returns-in-Some
returns-in-Some g c =
    let finds = c.in-Some.ensures in
    lists_so c.args.declared.now c.in_ok-exchange.exchange c.in_ok-project.project finds.0 c.in-Some.found _ _ c.in_ok-project.ensures
    c.in_ok-exchange.ensures.0 c.in_ok-exchange.ensures.1 finds.1 finds.2

pub returns-in-None : goal.returns-in-None
returns-in-None g c =
    rw c.refused_by.ensures
    (lists_not c.args.declared.now c.in_ok-exchange.exchange c.in_ok-project.project _ _ c.in_ok-project.ensures c.in_ok-exchange.ensures.0 c.in_ok-exchange.ensures.1 c.in-None.ensures)
