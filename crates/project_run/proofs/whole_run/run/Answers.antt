use Rattle.std.proofs.Common.{◌≡◌, ◌∙◌, List, Option, ap, length, subst, sym}
use Rattle.engine_types.specs.declared.RunFault.{RunFault}
use Rattle.engine_types.specs.declared.RunLimits.{RunLimits}
use Rattle.ledger_run.specs.Tellings.{Telling, telling}
use Rattle.outside_api.specs.Clock.{Clock, new_clock}
use Rattle.project_run.proofs.Timed.{given_for, limits_stay}
use Rattle.project_run.specs.Options.{clock_begun}
use Rattle.project_run.specs.Whole.{IsFault, IsReport, Leaves, task_of}
use Rattle.run_model.specs.Runs.{run_fault, run_report}
use Rattle.project_run.proofs.whole_run.run.Goals as goal

pub run_within-ran-requires-clause-one : goal.run_within-ran-requires-clause-one
run_within-ran-requires-clause-one g c = given_for c.args.options 1 c.args.given (g.H.Hand.clock c.limits_for-limits.new.hand).first c.limits_for-limits.result c.requires.given c.limits_for-limits.ensures.limits

pub run_within-ran-requires-clause-read : goal.run_within-ran-requires-clause-read
run_within-ran-requires-clause-read g c = c.limits_for-limits.ensures.clock
    ∙ ap (λ (t : Telling). clock_begun c.limits_for-limits.result.deadline (length t.log) (g.H.Hand.clock c.limits_for-limits.new.hand).first) (sym c.limits_for-limits.ensures.kept)

pub returns-clause-limits : goal.returns-clause-limits
returns-clause-limits g c = limits_stay c.args.options 1 c.args.given (length (g.H.Hand.log c.args.hand.now)) (g.H.Hand.clock c.limits_for-limits.new.hand) (g.H.Hand.clock c.run_within-ran.new.hand) c.limits_for-limits.result c.limits_for-limits.ensures.limits c.limits_for-limits.ensures.clock c.run_within-ran.ensures.first

pub returns-clause-leaves : goal.returns-clause-leaves
returns-clause-leaves g c =
    let kept : (telling (g.H.Hand.log c.limits_for-limits.new.hand) (g.H.Hand.heard c.limits_for-limits.new.hand) (g.H.Hand.faults c.limits_for-limits.new.hand) new_clock (g.H.Hand.engine c.limits_for-limits.new.hand)) ≡ (telling (g.H.Hand.log c.args.hand.now) (g.H.Hand.heard c.args.hand.now) (g.H.Hand.faults c.args.hand.now) (g.H.Hand.clock c.args.hand.now) (g.H.Hand.engine c.args.hand.now))
    = ap (λ (t : Telling). record t { clock = new_clock }) c.limits_for-limits.ensures.kept
    ∙ ap (λ (k : Clock). telling (g.H.Hand.log c.args.hand.now) (g.H.Hand.heard c.args.hand.now) (g.H.Hand.faults c.args.hand.now) k (g.H.Hand.engine c.args.hand.now)) (sym c.requires.unused) in
    subst (λ (limits : RunLimits). Leaves (task_of c.args.declared c.args.aim limits) c.run_within-ran.result.ran.journal (telling (g.H.Hand.log c.args.hand.now) (g.H.Hand.heard c.args.hand.now) (g.H.Hand.faults c.args.hand.now) (g.H.Hand.clock c.args.hand.now) (g.H.Hand.engine c.args.hand.now)) (telling (g.H.Hand.log c.run_within-ran.new.hand) (g.H.Hand.heard c.run_within-ran.new.hand) (g.H.Hand.faults c.run_within-ran.new.hand) (g.H.Hand.clock c.run_within-ran.new.hand) (g.H.Hand.engine c.run_within-ran.new.hand))) (limits_stay c.args.options 1 c.args.given (length (g.H.Hand.log c.args.hand.now)) (g.H.Hand.clock c.limits_for-limits.new.hand) (g.H.Hand.clock c.run_within-ran.new.hand) c.limits_for-limits.result c.limits_for-limits.ensures.limits c.limits_for-limits.ensures.clock c.run_within-ran.ensures.first)
    (subst (λ (t : Telling). Leaves (task_of c.args.declared c.args.aim c.limits_for-limits.result) c.run_within-ran.result.ran.journal t (telling (g.H.Hand.log c.run_within-ran.new.hand) (g.H.Hand.heard c.run_within-ran.new.hand) (g.H.Hand.faults c.run_within-ran.new.hand) (g.H.Hand.clock c.run_within-ran.new.hand) (g.H.Hand.engine c.run_within-ran.new.hand))) kept c.run_within-ran.ensures.leaves)

pub returns-clause-fault : goal.returns-clause-fault
returns-clause-fault g c = subst (λ (limits : RunLimits). IsFault (run_fault (task_of c.args.declared c.args.aim limits) c.run_within-ran.result.ran.journal) c.run_within-ran.result.ran.fault) (limits_stay c.args.options 1 c.args.given (length (g.H.Hand.log c.args.hand.now)) (g.H.Hand.clock c.limits_for-limits.new.hand) (g.H.Hand.clock c.run_within-ran.new.hand) c.limits_for-limits.result c.limits_for-limits.ensures.limits c.limits_for-limits.ensures.clock c.run_within-ran.ensures.first) c.run_within-ran.ensures.fault

pub returns-clause-report : goal.returns-clause-report
returns-clause-report g c = subst (λ (limits : RunLimits). IsReport (run_report (task_of c.args.declared c.args.aim limits) c.run_within-ran.result.ran.journal) c.run_within-ran.result.ran.fault c.run_within-ran.result.ran.report) (limits_stay c.args.options 1 c.args.given (length (g.H.Hand.log c.args.hand.now)) (g.H.Hand.clock c.limits_for-limits.new.hand) (g.H.Hand.clock c.run_within-ran.new.hand) c.limits_for-limits.result c.limits_for-limits.ensures.limits c.limits_for-limits.ensures.clock c.run_within-ran.ensures.first) c.run_within-ran.ensures.report
