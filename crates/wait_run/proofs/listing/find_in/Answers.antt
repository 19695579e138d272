use Rattle.std.proofs.Common.{subst, sym}
use Rattle.wait_run.specs.Goals.{FindsAll}
use Rattle.wait_run.proofs.listing.find_in.Goals as goal

pub returns-in-Some : goal.returns-in-Some
returns-in-Some c =
    (c.in-Some.rows.now, sym c.in-Some.ensures, subst (λ l. FindsAll c.args.declared.now l c.goals_of.result) c.as_slice.ensures c.goals_of.ensures)

pub returns-in-None : goal.returns-in-None
returns-in-None c = sym c.in-None.ensures
