-- The tasks up to a place were looked at, and the worker's own among them were fetched.
use Rattle.outside_api.specs.Accounts.{account}
use Rattle.std.proofs.Common.{◌≡◌}
use Rattle.logs_run.proofs.Going.{HasFetchedTo}
use Rattle.logs_run.proofs.fetching.fetch_own.Given as goal

abbrev pub invariant-loop-task : goal.invariant-loop-task
invariant-loop-task g l = record {
  fetched : HasFetchedTo l.turns l.all l.workers l.number l.task-index l.initial.fetcher.seat l.fetcher.seat l.fetcher.met
      (account (g.H.Hand.log l.initial.fetcher.hand) (g.H.Hand.heard l.initial.fetcher.hand) (g.H.Hand.faults l.initial.fetcher.hand))
      (account (g.H.Hand.log l.fetcher.hand) (g.H.Hand.heard l.fetcher.hand) (g.H.Hand.faults l.fetcher.hand));
  clock : g.H.Hand.clock l.fetcher.hand ≡ g.H.Hand.clock l.initial.fetcher.hand;
}
