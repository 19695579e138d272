use Rattle.std.proofs.Common.{◌≡◌, List, Option, length, refl, subst, sym}
use Rattle.engine_types.specs.declared.Entry.{Entry}
use Rattle.engine_types.specs.declared.RunFault.{RunFault}
use Rattle.engine_types.specs.declared.RunLimits.{RunLimits}
use Rattle.ledger_run.specs.Tellings.{telling}
use Rattle.parallel_run.proofs.Opened.{as_many, ended_badly, ends_badly, have_room, leaves_together, limits_last, may_begin_so, of_task, some_left}
use Rattle.parallel_run.specs.Together.{LeavesTogether, OpensWith, first_reading}
use Rattle.project_run.proofs.Timed.{given_for}
use Rattle.project_run.specs.Whole.{IsFault, IsReport, task_of}
use Rattle.project_run.specs.declared.opening.Opening.{Opening}
use Rattle.run_model.specs.Ending.{first_fault}
use Rattle.run_model.specs.Lines.{report_text}
use Rattle.run_model.specs.Runs.{run_fault, run_report}
use Rattle.parallel_run.proofs.whole_run.run.Goals as goal

pub carry_out-ran-requires-clause-may : goal.carry_out-ran-requires-clause-may
carry_out-ran-requires-clause-may g c κs within =
    may_begin_so (λ h. telling (g.H.Hand.log h) (g.H.Hand.heard h) (g.H.Hand.faults h) (g.H.Hand.clock h) (g.H.Hand.engine h)) c.args.declared c.args.aim c.open_with-hands.result.bounds c.args.hands c.open_with-hands.result.hands c.requires.some c.requires.unused
    c.bounded-limits.result c.bounded-limits.ensures (given_for c.args.options (length c.args.hands) c.args.given (first_reading (λ h. g.H.Hand.clock h) c.open_with-hands.result.hands) c.open_with-hands.result.bounds c.requires.given c.open_with-hands.ensures.bounds)
    c.in-Planned.observed c.in-Planned.plan c.requires.whole c.requires.small c.requires.acyclic c.requires.needs c.requires.few
    (subst (λ (o : Opening). OpensWith (λ h. telling (g.H.Hand.log h) (g.H.Hand.heard h) (g.H.Hand.faults h) (g.H.Hand.clock h) (g.H.Hand.engine h)) c.args.declared c.args.aim c.open_with-hands.result.bounds o c.args.hands c.open_with-hands.result.hands) c.in-Planned.is c.open_with-hands.ensures.opens)

pub carry_out-ran-requires-clause-some : goal.carry_out-ran-requires-clause-some
carry_out-ran-requires-clause-some g c κs within =
    some_left (λ h. telling (g.H.Hand.log h) (g.H.Hand.heard h) (g.H.Hand.faults h) (g.H.Hand.clock h) (g.H.Hand.engine h)) c.args.declared c.args.aim c.open_with-hands.result.bounds c.args.hands c.open_with-hands.result.hands c.requires.some c.requires.unused
    c.open_with-hands.result.opening c.open_with-hands.ensures.opens

pub carry_out-ran-requires-clause-workers : goal.carry_out-ran-requires-clause-workers
carry_out-ran-requires-clause-workers g c κs within =
    as_many (λ h. telling (g.H.Hand.log h) (g.H.Hand.heard h) (g.H.Hand.faults h) (g.H.Hand.clock h) (g.H.Hand.engine h)) c.args.declared c.args.aim c.open_with-hands.result.bounds c.args.hands c.open_with-hands.result.hands c.requires.some c.requires.unused
    c.bounded-limits.result c.bounded-limits.ensures (given_for c.args.options (length c.args.hands) c.args.given (first_reading (λ h. g.H.Hand.clock h) c.open_with-hands.result.hands) c.open_with-hands.result.bounds c.requires.given c.open_with-hands.ensures.bounds)
    c.in-Planned.observed c.in-Planned.plan c.requires.whole c.requires.small c.requires.acyclic c.requires.needs c.requires.few
    (subst (λ (o : Opening). OpensWith (λ h. telling (g.H.Hand.log h) (g.H.Hand.heard h) (g.H.Hand.faults h) (g.H.Hand.clock h) (g.H.Hand.engine h)) c.args.declared c.args.aim c.open_with-hands.result.bounds o c.args.hands c.open_with-hands.result.hands) c.in-Planned.is c.open_with-hands.ensures.opens)

pub carry_out-ran-requires-clause-clocks : goal.carry_out-ran-requires-clause-clocks
carry_out-ran-requires-clause-clocks g c κs within =
    have_room (λ h. telling (g.H.Hand.log h) (g.H.Hand.heard h) (g.H.Hand.faults h) (g.H.Hand.clock h) (g.H.Hand.engine h)) c.args.declared c.args.aim c.open_with-hands.result.bounds c.args.hands c.open_with-hands.result.hands c.requires.some c.requires.unused
    c.bounded-limits.result c.bounded-limits.ensures (given_for c.args.options (length c.args.hands) c.args.given (first_reading (λ h. g.H.Hand.clock h) c.open_with-hands.result.hands) c.open_with-hands.result.bounds c.requires.given c.open_with-hands.ensures.bounds)
    c.in-Planned.observed c.in-Planned.plan c.requires.whole c.requires.small c.requires.acyclic c.requires.needs c.requires.few
    (subst (λ (o : Opening). OpensWith (λ h. telling (g.H.Hand.log h) (g.H.Hand.heard h) (g.H.Hand.faults h) (g.H.Hand.clock h) (g.H.Hand.engine h)) c.args.declared c.args.aim c.open_with-hands.result.bounds o c.args.hands c.open_with-hands.result.hands) c.in-Planned.is c.open_with-hands.ensures.opens)

pub returns-in-Planned-clause-limits : goal.returns-in-Planned-clause-limits
returns-in-Planned-clause-limits g c =
    limits_last (λ h. telling (g.H.Hand.log h) (g.H.Hand.heard h) (g.H.Hand.faults h) (g.H.Hand.clock h) (g.H.Hand.engine h)) c.args.declared c.args.aim c.open_with-hands.result.bounds c.args.hands c.open_with-hands.result.hands c.requires.some c.requires.unused
    c.bounded-limits.result c.bounded-limits.ensures (given_for c.args.options (length c.args.hands) c.args.given (first_reading (λ h. g.H.Hand.clock h) c.open_with-hands.result.hands) c.open_with-hands.result.bounds c.requires.given c.open_with-hands.ensures.bounds)
    c.in-Planned.observed c.in-Planned.plan c.requires.whole c.requires.small c.requires.acyclic c.requires.needs c.requires.few
    (subst (λ (o : Opening). OpensWith (λ h. telling (g.H.Hand.log h) (g.H.Hand.heard h) (g.H.Hand.faults h) (g.H.Hand.clock h) (g.H.Hand.engine h)) c.args.declared c.args.aim c.open_with-hands.result.bounds o c.args.hands c.open_with-hands.result.hands) c.in-Planned.is c.open_with-hands.ensures.opens)
    c.carry_out-ran.result.ran.journal c.carry_out-ran.result.hands c.args.options c.args.given c.open_with-hands.ensures.bounds c.carry_out-ran.ensures.carried

pub returns-in-Planned-clause-leaves : goal.returns-in-Planned-clause-leaves
returns-in-Planned-clause-leaves g c =
    subst (λ (limits : RunLimits). LeavesTogether (λ h. telling (g.H.Hand.log h) (g.H.Hand.heard h) (g.H.Hand.faults h) (g.H.Hand.clock h) (g.H.Hand.engine h)) (task_of c.args.declared c.args.aim limits) c.carry_out-ran.result.ran.journal c.args.hands c.carry_out-ran.result.hands)
    (limits_last (λ h. telling (g.H.Hand.log h) (g.H.Hand.heard h) (g.H.Hand.faults h) (g.H.Hand.clock h) (g.H.Hand.engine h)) c.args.declared c.args.aim c.open_with-hands.result.bounds c.args.hands c.open_with-hands.result.hands c.requires.some c.requires.unused
    c.bounded-limits.result c.bounded-limits.ensures (given_for c.args.options (length c.args.hands) c.args.given (first_reading (λ h. g.H.Hand.clock h) c.open_with-hands.result.hands) c.open_with-hands.result.bounds c.requires.given c.open_with-hands.ensures.bounds)
    c.in-Planned.observed c.in-Planned.plan c.requires.whole c.requires.small c.requires.acyclic c.requires.needs c.requires.few
    (subst (λ (o : Opening). OpensWith (λ h. telling (g.H.Hand.log h) (g.H.Hand.heard h) (g.H.Hand.faults h) (g.H.Hand.clock h) (g.H.Hand.engine h)) c.args.declared c.args.aim c.open_with-hands.result.bounds o c.args.hands c.open_with-hands.result.hands) c.in-Planned.is c.open_with-hands.ensures.opens)
    c.carry_out-ran.result.ran.journal c.carry_out-ran.result.hands c.args.options c.args.given c.open_with-hands.ensures.bounds c.carry_out-ran.ensures.carried)
    (leaves_together (λ h. telling (g.H.Hand.log h) (g.H.Hand.heard h) (g.H.Hand.faults h) (g.H.Hand.clock h) (g.H.Hand.engine h)) c.args.declared c.args.aim c.open_with-hands.result.bounds c.args.hands c.open_with-hands.result.hands c.requires.some c.requires.unused
    c.bounded-limits.result c.bounded-limits.ensures (given_for c.args.options (length c.args.hands) c.args.given (first_reading (λ h. g.H.Hand.clock h) c.open_with-hands.result.hands) c.open_with-hands.result.bounds c.requires.given c.open_with-hands.ensures.bounds)
    c.in-Planned.observed c.in-Planned.plan c.requires.whole c.requires.small c.requires.acyclic c.requires.needs c.requires.few
    (subst (λ (o : Opening). OpensWith (λ h. telling (g.H.Hand.log h) (g.H.Hand.heard h) (g.H.Hand.faults h) (g.H.Hand.clock h) (g.H.Hand.engine h)) c.args.declared c.args.aim c.open_with-hands.result.bounds o c.args.hands c.open_with-hands.result.hands) c.in-Planned.is c.open_with-hands.ensures.opens)
    c.carry_out-ran.result.ran.journal c.carry_out-ran.result.hands c.carry_out-ran.ensures.carried)

pub returns-in-Planned-clause-fault : goal.returns-in-Planned-clause-fault
returns-in-Planned-clause-fault g c =
    subst (λ (limits : RunLimits). IsFault (run_fault (task_of c.args.declared c.args.aim limits) c.carry_out-ran.result.ran.journal) c.carry_out-ran.result.ran.fault)
    (limits_last (λ h. telling (g.H.Hand.log h) (g.H.Hand.heard h) (g.H.Hand.faults h) (g.H.Hand.clock h) (g.H.Hand.engine h)) c.args.declared c.args.aim c.open_with-hands.result.bounds c.args.hands c.open_with-hands.result.hands c.requires.some c.requires.unused
    c.bounded-limits.result c.bounded-limits.ensures (given_for c.args.options (length c.args.hands) c.args.given (first_reading (λ h. g.H.Hand.clock h) c.open_with-hands.result.hands) c.open_with-hands.result.bounds c.requires.given c.open_with-hands.ensures.bounds)
    c.in-Planned.observed c.in-Planned.plan c.requires.whole c.requires.small c.requires.acyclic c.requires.needs c.requires.few
    (subst (λ (o : Opening). OpensWith (λ h. telling (g.H.Hand.log h) (g.H.Hand.heard h) (g.H.Hand.faults h) (g.H.Hand.clock h) (g.H.Hand.engine h)) c.args.declared c.args.aim c.open_with-hands.result.bounds o c.args.hands c.open_with-hands.result.hands) c.in-Planned.is c.open_with-hands.ensures.opens)
    c.carry_out-ran.result.ran.journal c.carry_out-ran.result.hands c.args.options c.args.given c.open_with-hands.ensures.bounds c.carry_out-ran.ensures.carried)
    (subst (λ (expected : Option RunFault). IsFault expected c.carry_out-ran.result.ran.fault)
    (of_task (λ h. telling (g.H.Hand.log h) (g.H.Hand.heard h) (g.H.Hand.faults h) (g.H.Hand.clock h) (g.H.Hand.engine h)) c.args.declared c.args.aim c.open_with-hands.result.bounds c.args.hands c.open_with-hands.result.hands c.requires.some c.requires.unused
    c.bounded-limits.result c.bounded-limits.ensures (given_for c.args.options (length c.args.hands) c.args.given (first_reading (λ h. g.H.Hand.clock h) c.open_with-hands.result.hands) c.open_with-hands.result.bounds c.requires.given c.open_with-hands.ensures.bounds)
    c.in-Planned.observed c.in-Planned.plan c.requires.whole c.requires.small c.requires.acyclic c.requires.needs c.requires.few
    (subst (λ (o : Opening). OpensWith (λ h. telling (g.H.Hand.log h) (g.H.Hand.heard h) (g.H.Hand.faults h) (g.H.Hand.clock h) (g.H.Hand.engine h)) c.args.declared c.args.aim c.open_with-hands.result.bounds o c.args.hands c.open_with-hands.result.hands) c.in-Planned.is c.open_with-hands.ensures.opens)
    c.carry_out-ran.result.ran.journal c.carry_out-ran.result.hands first_fault (λ setup other. refl) c.carry_out-ran.ensures.carried)
    c.carry_out-ran.ensures.fault)

pub returns-in-Planned-clause-report : goal.returns-in-Planned-clause-report
returns-in-Planned-clause-report g c =
    subst (λ (limits : RunLimits). IsReport (run_report (task_of c.args.declared c.args.aim limits) c.carry_out-ran.result.ran.journal) c.carry_out-ran.result.ran.fault c.carry_out-ran.result.ran.report)
    (limits_last (λ h. telling (g.H.Hand.log h) (g.H.Hand.heard h) (g.H.Hand.faults h) (g.H.Hand.clock h) (g.H.Hand.engine h)) c.args.declared c.args.aim c.open_with-hands.result.bounds c.args.hands c.open_with-hands.result.hands c.requires.some c.requires.unused
    c.bounded-limits.result c.bounded-limits.ensures (given_for c.args.options (length c.args.hands) c.args.given (first_reading (λ h. g.H.Hand.clock h) c.open_with-hands.result.hands) c.open_with-hands.result.bounds c.requires.given c.open_with-hands.ensures.bounds)
    c.in-Planned.observed c.in-Planned.plan c.requires.whole c.requires.small c.requires.acyclic c.requires.needs c.requires.few
    (subst (λ (o : Opening). OpensWith (λ h. telling (g.H.Hand.log h) (g.H.Hand.heard h) (g.H.Hand.faults h) (g.H.Hand.clock h) (g.H.Hand.engine h)) c.args.declared c.args.aim c.open_with-hands.result.bounds o c.args.hands c.open_with-hands.result.hands) c.in-Planned.is c.open_with-hands.ensures.opens)
    c.carry_out-ran.result.ran.journal c.carry_out-ran.result.hands c.args.options c.args.given c.open_with-hands.ensures.bounds c.carry_out-ran.ensures.carried)
    (subst (λ (expected : List _). IsReport expected c.carry_out-ran.result.ran.fault c.carry_out-ran.result.ran.report)
    (of_task (λ h. telling (g.H.Hand.log h) (g.H.Hand.heard h) (g.H.Hand.faults h) (g.H.Hand.clock h) (g.H.Hand.engine h)) c.args.declared c.args.aim c.open_with-hands.result.bounds c.args.hands c.open_with-hands.result.hands c.requires.some c.requires.unused
    c.bounded-limits.result c.bounded-limits.ensures (given_for c.args.options (length c.args.hands) c.args.given (first_reading (λ h. g.H.Hand.clock h) c.open_with-hands.result.hands) c.open_with-hands.result.bounds c.requires.given c.open_with-hands.ensures.bounds)
    c.in-Planned.observed c.in-Planned.plan c.requires.whole c.requires.small c.requires.acyclic c.requires.needs c.requires.few
    (subst (λ (o : Opening). OpensWith (λ h. telling (g.H.Hand.log h) (g.H.Hand.heard h) (g.H.Hand.faults h) (g.H.Hand.clock h) (g.H.Hand.engine h)) c.args.declared c.args.aim c.open_with-hands.result.bounds o c.args.hands c.open_with-hands.result.hands) c.in-Planned.is c.open_with-hands.ensures.opens)
    c.carry_out-ran.result.ran.journal c.carry_out-ran.result.hands report_text (λ setup other. refl) c.carry_out-ran.ensures.carried)
    c.carry_out-ran.ensures.report)

pub ended-ran-requires-clause-bad : goal.ended-ran-requires-clause-bad
ended-ran-requires-clause-bad g c =
    ended_badly (λ h. telling (g.H.Hand.log h) (g.H.Hand.heard h) (g.H.Hand.faults h) (g.H.Hand.clock h) (g.H.Hand.engine h)) c.args.declared c.args.aim c.open_with-hands.result.bounds c.args.hands c.open_with-hands.result.hands c.requires.some c.requires.unused c.in-Ended.observed
    (subst (λ (o : Opening). OpensWith (λ h. telling (g.H.Hand.log h) (g.H.Hand.heard h) (g.H.Hand.faults h) (g.H.Hand.clock h) (g.H.Hand.engine h)) c.args.declared c.args.aim c.open_with-hands.result.bounds o c.args.hands c.open_with-hands.result.hands) c.in-Ended.is c.open_with-hands.ensures.opens)

pub returns-in-Ended-clause-leaves : goal.returns-in-Ended-clause-leaves
returns-in-Ended-clause-leaves g c =
    subst (λ (limits : RunLimits). LeavesTogether (λ h. telling (g.H.Hand.log h) (g.H.Hand.heard h) (g.H.Hand.faults h) (g.H.Hand.clock h) (g.H.Hand.engine h)) (task_of c.args.declared c.args.aim limits) c.ended-ran.result.journal c.args.hands c.open_with-hands.result.hands) c.open_with-hands.ensures.bounds
    (subst (λ (journal : List Entry). LeavesTogether (λ h. telling (g.H.Hand.log h) (g.H.Hand.heard h) (g.H.Hand.faults h) (g.H.Hand.clock h) (g.H.Hand.engine h)) (task_of c.args.declared c.args.aim c.open_with-hands.result.bounds) journal c.args.hands c.open_with-hands.result.hands) (sym c.ended-ran.ensures.journal)
    (ends_badly (λ h. telling (g.H.Hand.log h) (g.H.Hand.heard h) (g.H.Hand.faults h) (g.H.Hand.clock h) (g.H.Hand.engine h)) c.args.declared c.args.aim c.open_with-hands.result.bounds c.args.hands c.open_with-hands.result.hands c.requires.some c.requires.unused c.in-Ended.observed
    (subst (λ (o : Opening). OpensWith (λ h. telling (g.H.Hand.log h) (g.H.Hand.heard h) (g.H.Hand.faults h) (g.H.Hand.clock h) (g.H.Hand.engine h)) c.args.declared c.args.aim c.open_with-hands.result.bounds o c.args.hands c.open_with-hands.result.hands) c.in-Ended.is c.open_with-hands.ensures.opens)))

pub returns-in-Ended-clause-fault : goal.returns-in-Ended-clause-fault
returns-in-Ended-clause-fault g c =
    subst (λ (limits : RunLimits). IsFault (run_fault (task_of c.args.declared c.args.aim limits) c.ended-ran.result.journal) c.ended-ran.result.fault) c.open_with-hands.ensures.bounds
    (subst (λ (journal : List Entry). IsFault (run_fault (task_of c.args.declared c.args.aim c.open_with-hands.result.bounds) journal) c.ended-ran.result.fault) (sym c.ended-ran.ensures.journal)
    (c.ended-ran.ensures.fault (task_of c.args.declared c.args.aim c.open_with-hands.result.bounds)))

pub returns-in-Ended-clause-report : goal.returns-in-Ended-clause-report
returns-in-Ended-clause-report g c =
    subst (λ (limits : RunLimits). IsReport (run_report (task_of c.args.declared c.args.aim limits) c.ended-ran.result.journal) c.ended-ran.result.fault c.ended-ran.result.report) c.open_with-hands.ensures.bounds
    (subst (λ (journal : List Entry). IsReport (run_report (task_of c.args.declared c.args.aim c.open_with-hands.result.bounds) journal) c.ended-ran.result.fault c.ended-ran.result.report) (sym c.ended-ran.ensures.journal)
    (c.ended-ran.ensures.report (task_of c.args.declared c.args.aim c.open_with-hands.result.bounds)))
