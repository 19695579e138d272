use Rattle.std.proofs.Common.{◌∙◌, ap, length, subst, sym}
use Rattle.compose_cli.proofs.Ran.{if_begun}
use Rattle.engine_types.specs.declared.RunLimits.{RunLimits}
use Rattle.ledger_run.specs.Tellings.{telling}
use Rattle.parallel_run.specs.Together.{LeavesTogether, first_reading as together_reading}
use Rattle.project_run.proofs.Timed.{given_for}
use Rattle.project_run.specs.Options.{limits_in}
use Rattle.project_run.specs.Whole.{IfBegun, IsFault, IsReport, task_of}
use Rattle.repeated_runs.proofs.Pairs.{clocks_unread, long_by, runs_together, same_reading}
use Rattle.run_model.specs.Runs.{run_fault, run_report}
use Rattle.repeated_runs.proofs.together.run_new.Goals as goal

pub run_parallel_given-requires-clause-unused : goal.run_parallel_given-requires-clause-unused
run_parallel_given-requires-clause-unused g c κs within = clocks_unread (λ h. telling (g.H.Hand.log h) (g.H.Hand.heard h) (g.H.Hand.faults h) (g.H.Hand.clock h) (g.H.Hand.engine h)) c.args.hands c.requires.fresh

pub returns-clause-hands : goal.returns-clause-hands
returns-clause-hands g c = long_by (λ h. telling (g.H.Hand.log h) (g.H.Hand.heard h) (g.H.Hand.faults h) (g.H.Hand.clock h) (g.H.Hand.engine h)) (task_of c.args.declared c.args.aim (limits_in (length c.args.hands) c.args.options c.args.given (together_reading (λ h. g.H.Hand.clock h) c.run_parallel_given.result.hands))) c.run_parallel_given.result.ran.journal c.args.hands c.run_parallel_given.result.hands
    (λ e. (c.run_parallel_given.ensures.empty e).1) c.run_parallel_given.ensures.leaves

pub returns-clause-limits : goal.returns-clause-limits
returns-clause-limits g c = c.run_parallel_given.ensures.limits ∙ ap (limits_in (length c.args.hands) c.args.options c.args.given) (same_reading (λ h. g.H.Hand.clock h) c.run_parallel_given.result.hands)

pub returns-clause-runs : goal.returns-clause-runs
returns-clause-runs g c = if_begun c.run_parallel_given.result.ran.journal
    (subst (λ (limits : RunLimits). IfBegun c.run_parallel_given.result.ran.journal (LeavesTogether (λ h. telling (g.H.Hand.log h) (g.H.Hand.heard h) (g.H.Hand.faults h) (g.H.Hand.clock h) (g.H.Hand.engine h)) (task_of c.args.declared c.args.aim limits) c.run_parallel_given.result.ran.journal c.args.hands c.run_parallel_given.result.hands)) (sym c.run_parallel_given.ensures.limits) c.run_parallel_given.ensures.leaves)
    (λ leaves. runs_together (λ h. telling (g.H.Hand.log h) (g.H.Hand.heard h) (g.H.Hand.faults h) (g.H.Hand.clock h) (g.H.Hand.engine h)) (task_of c.args.declared c.args.aim c.run_parallel_given.result.limits) c.run_parallel_given.result.ran.journal c.args.hands c.run_parallel_given.result.hands c.requires.fresh (given_for c.args.options (length c.args.hands) c.args.given (together_reading (λ h. g.H.Hand.clock h) c.run_parallel_given.result.hands) c.run_parallel_given.result.limits c.requires.given c.run_parallel_given.ensures.limits) leaves)

pub returns-clause-fault : goal.returns-clause-fault
returns-clause-fault g c = subst (λ (limits : RunLimits). IfBegun c.run_parallel_given.result.ran.journal (IsFault (run_fault (task_of c.args.declared c.args.aim limits) c.run_parallel_given.result.ran.journal) c.run_parallel_given.result.ran.fault)) (sym c.run_parallel_given.ensures.limits) c.run_parallel_given.ensures.fault

pub returns-clause-report : goal.returns-clause-report
returns-clause-report g c = subst (λ (limits : RunLimits). IsReport (run_report (task_of c.args.declared c.args.aim limits) c.run_parallel_given.result.ran.journal) c.run_parallel_given.result.ran.fault c.run_parallel_given.result.ran.report) (sym c.run_parallel_given.ensures.limits) c.run_parallel_given.ensures.report
