-- The runs so far are those of one task.
use Rattle.std.proofs.Common.{◌≤◌, ◌-◌, length}
use Rattle.ledger_run.specs.Tellings.{telling}
use Rattle.repeated_runs.specs.Attempts.{most_runs}
use Rattle.repeated_runs.specs.Dials.{IsDialHere}
use Rattle.repeated_runs.specs.Followings.{Underway, task_by}
use Rattle.repeated_runs.specs.Moments.{moment}
use Rattle.repeated_runs.proofs.again.run_again.Given as goal

abbrev pub invariant-runs : goal.invariant-runs
invariant-runs g l = record {
  going : Underway (λ h. telling (g.P.Hand.Hand.log h) (g.P.Hand.Hand.heard h) (g.P.Hand.Hand.faults h) (g.P.Hand.Hand.clock h) (g.P.Hand.Hand.engine h)) (IsDialHere l.place) l.workers l.fn.declared l.aim (task_by (λ h. telling (g.P.Hand.Hand.log h) (g.P.Hand.Hand.heard h) (g.P.Hand.Hand.faults h) (g.P.Hand.Hand.clock h) (g.P.Hand.Hand.engine h)) l.fn.declared l.aim l.options l.workers l.course.earlier.items l.course.once.ended) l.course.earlier.items l.course.once
      (moment (g.P.Plug.dials l.fn.plug) (g.P.Plug.dialled l.fn.plug) (g.P.Plug.faults l.fn.plug) (g.O.Sink.written l.fn.out) (g.O.Sink.faults l.fn.out))
      (moment (g.P.Plug.dials l.plug) (g.P.Plug.dialled l.plug) (g.P.Plug.faults l.plug) (g.O.Sink.written l.out) (g.O.Sink.faults l.out));
  few : length l.course.earlier.items ≤ most_runs;
}

abbrev pub decreases-runs : goal.decreases-runs
decreases-runs g l = most_runs - length l.course.earlier.items
