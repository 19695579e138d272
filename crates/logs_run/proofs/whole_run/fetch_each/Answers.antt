use Rattle.std.proofs.Common.{◌≡◌, length, subst}
use Rattle.std.specs.Prelude.{slice_index_or}
use Rattle.outside_api.specs.Accounts.{account}
use Rattle.logs_run.specs.Met.{HasFetchedAs}
use Rattle.logs_run.specs.declared.fetching.Fetcher.{Fetcher}
use Rattle.logs_run.proofs.whole_run.fetch_each.Goals as goal

pub returns-clause-fetched : goal.returns-clause-fetched
returns-clause-fetched g c = λ k d l.
    let at = (c.for_each_mut.ensures k d l).1 in
    let old = slice_index_or c.args.crew.now k d in
    subst (λ (m : Fetcher g.row.H.Denot). HasFetchedAs c.args.turns.now c.args.all.now (length c.args.crew.now) k old.seat m.seat m.met
    (account (g.H.Hand.log old.hand) (g.H.Hand.heard old.hand) (g.H.Hand.faults old.hand))
    (account (g.H.Hand.log m.hand) (g.H.Hand.heard m.hand) (g.H.Hand.faults m.hand))
    × (g.H.Hand.clock m.hand ≡ g.H.Hand.clock old.hand)) at.left
    (subst (λ (m : Fetcher g.row.H.Denot). HasFetchedAs c.args.turns.now c.args.all.now (length c.args.crew.now) k m.seat at.after_call.now.seat at.after_call.now.met
    (account (g.H.Hand.log m.hand) (g.H.Hand.heard m.hand) (g.H.Hand.faults m.hand))
    (account (g.H.Hand.log at.after_call.now.hand) (g.H.Hand.heard at.after_call.now.hand) (g.H.Hand.faults at.after_call.now.hand))
    × (g.H.Hand.clock at.after_call.now.hand ≡ g.H.Hand.clock m.hand)) at.argument_is at.call)
