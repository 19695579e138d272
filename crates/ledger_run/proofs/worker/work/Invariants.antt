-- The worker is on its way.
use Rattle.std.proofs.Common.{◌-◌, length}
use Rattle.journal_laws.specs.Courses.{entries}
use Rattle.ledger_run.specs.Tellings.{telling}
use Rattle.ledger_run.proofs.Underway.{Underway}
use Rattle.ledger_run.proofs.worker.work.Given as goal

abbrev pub invariant-turns : goal.invariant-turns
invariant-turns g l = Underway l.deadline l.fn.ledger l.ledger
    (telling (g.H.Hand.log l.fn.hand) (g.H.Hand.heard l.fn.hand) (g.H.Hand.faults l.fn.hand) (g.H.Hand.clock l.fn.hand) (g.H.Hand.engine l.fn.hand))
    (telling (g.H.Hand.log l.hand) (g.H.Hand.heard l.hand) (g.H.Hand.faults l.hand) (g.H.Hand.clock l.hand) (g.H.Hand.engine l.hand))

abbrev pub decreases-turns : goal.decreases-turns
decreases-turns g l = 1000002 - length (entries l.ledger)
