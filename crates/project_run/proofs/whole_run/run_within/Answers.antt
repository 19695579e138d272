use Rattle.std.proofs.Common.{◌≡◌, ◌∙◌, ap, List, Option, length, refl, subst, sym}
use Rattle.engine_types.specs.declared.Entry.{Entry}
use Rattle.engine_types.specs.declared.RunFault.{RunFault}
use Rattle.ledger_run.specs.Tellings.{telling}
use Rattle.outside_api.specs.Clock.{Clock, new_clock}
use Rattle.project_run.proofs.Beginning.{may_begin}
use Rattle.project_run.proofs.Leaving.{keeps_first, leaves, leaves_badly, of_task}
use Rattle.project_run.proofs.Timed.{has_room}
use Rattle.project_run.specs.Whole.{IsFault, IsReport, Leaves, task_of}
use Rattle.run_model.specs.Ending.{first_fault}
use Rattle.run_model.specs.Lines.{report_text}
use Rattle.run_model.specs.Runs.{run_fault, run_report}
use Rattle.project_run.proofs.whole_run.run_within.Goals as goal

pub carry_out-requires-clause-may : goal.carry_out-requires-clause-may
carry_out-requires-clause-may g c =
    may_begin c.args.declared c.args.aim c.in-Planned.observed c.in-Planned.plan c.args.limits c.bounded-within.result
    (telling (g.H.Hand.log c.args.hand.now) (g.H.Hand.heard c.args.hand.now) (g.H.Hand.faults c.args.hand.now) (g.H.Hand.clock c.args.hand.now) (g.H.Hand.engine c.args.hand.now))
    (telling (g.H.Hand.log c.open.new.hand) (g.H.Hand.heard c.open.new.hand) (g.H.Hand.faults c.open.new.hand) (g.H.Hand.clock c.open.new.hand) (g.H.Hand.engine c.open.new.hand))
    c.requires.whole c.requires.small c.requires.acyclic c.requires.needs c.in-Planned.ensures c.requires.one c.bounded-within.ensures

pub carry_out-requires-clause-clock : goal.carry_out-requires-clause-clock
carry_out-requires-clause-clock g c =
    has_room c.args.limits.deadline (length (g.H.Hand.log c.args.hand.now)) (g.H.Hand.clock c.args.hand.now).first (g.H.Hand.clock c.open.new.hand) (c.in-Planned.ensures.timed ∙ c.requires.read)

pub returns-in-Planned-clause-leaves : goal.returns-in-Planned-clause-leaves
returns-in-Planned-clause-leaves g c =
    leaves c.args.declared c.args.aim c.args.limits c.bounded-within.result c.in-Planned.observed c.in-Planned.plan c.carry_out.result.ran.journal (g.H.Hand.clock c.args.hand.now)
    (telling (g.H.Hand.log c.args.hand.now) (g.H.Hand.heard c.args.hand.now) (g.H.Hand.faults c.args.hand.now) new_clock (g.H.Hand.engine c.args.hand.now))
    (telling (g.H.Hand.log c.open.new.hand) (g.H.Hand.heard c.open.new.hand) (g.H.Hand.faults c.open.new.hand) (g.H.Hand.clock c.open.new.hand) (g.H.Hand.engine c.open.new.hand))
    (telling (g.H.Hand.log c.carry_out.new.hand) (g.H.Hand.heard c.carry_out.new.hand) (g.H.Hand.faults c.carry_out.new.hand) (g.H.Hand.clock c.carry_out.new.hand) (g.H.Hand.engine c.carry_out.new.hand))
    refl c.requires.read c.bounded-within.ensures c.requires.one c.requires.whole c.requires.small c.requires.acyclic c.requires.needs c.in-Planned.ensures
    c.carry_out.ensures.carried

pub returns-in-Planned-clause-first : goal.returns-in-Planned-clause-first
returns-in-Planned-clause-first g c =
    keeps_first c.args.declared c.args.aim c.args.limits c.bounded-within.result c.in-Planned.observed c.in-Planned.plan c.carry_out.result.ran.journal (g.H.Hand.clock c.args.hand.now)
    (telling (g.H.Hand.log c.args.hand.now) (g.H.Hand.heard c.args.hand.now) (g.H.Hand.faults c.args.hand.now) new_clock (g.H.Hand.engine c.args.hand.now))
    (telling (g.H.Hand.log c.open.new.hand) (g.H.Hand.heard c.open.new.hand) (g.H.Hand.faults c.open.new.hand) (g.H.Hand.clock c.open.new.hand) (g.H.Hand.engine c.open.new.hand))
    (telling (g.H.Hand.log c.carry_out.new.hand) (g.H.Hand.heard c.carry_out.new.hand) (g.H.Hand.faults c.carry_out.new.hand) (g.H.Hand.clock c.carry_out.new.hand) (g.H.Hand.engine c.carry_out.new.hand))
    refl c.requires.read c.bounded-within.ensures c.requires.one c.requires.whole c.requires.small c.requires.acyclic c.requires.needs c.in-Planned.ensures
    c.carry_out.ensures.carried

pub returns-in-Planned-clause-fault : goal.returns-in-Planned-clause-fault
returns-in-Planned-clause-fault g c = subst (λ (expected : Option RunFault). IsFault expected c.carry_out.result.ran.fault)
    (of_task c.args.declared c.args.aim c.args.limits c.bounded-within.result c.in-Planned.observed c.in-Planned.plan c.carry_out.result.ran.journal (g.H.Hand.clock c.args.hand.now)
    (telling (g.H.Hand.log c.args.hand.now) (g.H.Hand.heard c.args.hand.now) (g.H.Hand.faults c.args.hand.now) new_clock (g.H.Hand.engine c.args.hand.now))
    (telling (g.H.Hand.log c.open.new.hand) (g.H.Hand.heard c.open.new.hand) (g.H.Hand.faults c.open.new.hand) (g.H.Hand.clock c.open.new.hand) (g.H.Hand.engine c.open.new.hand))
    (telling (g.H.Hand.log c.carry_out.new.hand) (g.H.Hand.heard c.carry_out.new.hand) (g.H.Hand.faults c.carry_out.new.hand) (g.H.Hand.clock c.carry_out.new.hand) (g.H.Hand.engine c.carry_out.new.hand))
    refl c.requires.read c.bounded-within.ensures c.requires.one c.requires.whole c.requires.small c.requires.acyclic c.requires.needs c.in-Planned.ensures
    first_fault (λ setup other. refl) c.carry_out.ensures.carried)
    c.carry_out.ensures.fault

pub returns-in-Planned-clause-report : goal.returns-in-Planned-clause-report
returns-in-Planned-clause-report g c = subst (λ (expected : List _). IsReport expected c.carry_out.result.ran.fault c.carry_out.result.ran.report)
    (of_task c.args.declared c.args.aim c.args.limits c.bounded-within.result c.in-Planned.observed c.in-Planned.plan c.carry_out.result.ran.journal (g.H.Hand.clock c.args.hand.now)
    (telling (g.H.Hand.log c.args.hand.now) (g.H.Hand.heard c.args.hand.now) (g.H.Hand.faults c.args.hand.now) new_clock (g.H.Hand.engine c.args.hand.now))
    (telling (g.H.Hand.log c.open.new.hand) (g.H.Hand.heard c.open.new.hand) (g.H.Hand.faults c.open.new.hand) (g.H.Hand.clock c.open.new.hand) (g.H.Hand.engine c.open.new.hand))
    (telling (g.H.Hand.log c.carry_out.new.hand) (g.H.Hand.heard c.carry_out.new.hand) (g.H.Hand.faults c.carry_out.new.hand) (g.H.Hand.clock c.carry_out.new.hand) (g.H.Hand.engine c.carry_out.new.hand))
    refl c.requires.read c.bounded-within.ensures c.requires.one c.requires.whole c.requires.small c.requires.acyclic c.requires.needs c.in-Planned.ensures
    report_text (λ setup other. refl) c.carry_out.ensures.carried)
    c.carry_out.ensures.report

pub returns-in-Ended-clause-leaves : goal.returns-in-Ended-clause-leaves
returns-in-Ended-clause-leaves g c = subst (λ (journal : List Entry). Leaves (task_of c.args.declared c.args.aim c.args.limits) journal
    (telling (g.H.Hand.log c.args.hand.now) (g.H.Hand.heard c.args.hand.now) (g.H.Hand.faults c.args.hand.now) new_clock (g.H.Hand.engine c.args.hand.now))
    (telling (g.H.Hand.log c.open.new.hand) (g.H.Hand.heard c.open.new.hand) (g.H.Hand.faults c.open.new.hand) (g.H.Hand.clock c.open.new.hand) (g.H.Hand.engine c.open.new.hand)))
    (sym c.ended-ran.ensures.journal)
    (leaves_badly c.args.declared c.args.aim c.args.limits c.in-Ended.observed (g.H.Hand.clock c.args.hand.now)
    (telling (g.H.Hand.log c.args.hand.now) (g.H.Hand.heard c.args.hand.now) (g.H.Hand.faults c.args.hand.now) new_clock (g.H.Hand.engine c.args.hand.now))
    (telling (g.H.Hand.log c.open.new.hand) (g.H.Hand.heard c.open.new.hand) (g.H.Hand.faults c.open.new.hand) (g.H.Hand.clock c.open.new.hand) (g.H.Hand.engine c.open.new.hand))
    refl c.requires.read c.in-Ended.ensures)

pub returns-in-Ended-clause-first : goal.returns-in-Ended-clause-first
returns-in-Ended-clause-first g c = λ some. ap (λ (k : Clock). k.first) c.in-Ended.ensures.timed

pub returns-in-Ended-clause-fault : goal.returns-in-Ended-clause-fault
returns-in-Ended-clause-fault g c = subst (λ (journal : List Entry). IsFault (run_fault (task_of c.args.declared c.args.aim c.args.limits) journal) c.ended-ran.result.fault)
    (sym c.ended-ran.ensures.journal) (c.ended-ran.ensures.fault (task_of c.args.declared c.args.aim c.args.limits))

pub returns-in-Ended-clause-report : goal.returns-in-Ended-clause-report
returns-in-Ended-clause-report g c = subst (λ (journal : List Entry). IsReport (run_report (task_of c.args.declared c.args.aim c.args.limits) journal) c.ended-ran.result.fault c.ended-ran.result.report)
    (sym c.ended-ran.ensures.journal) (c.ended-ran.ensures.report (task_of c.args.declared c.args.aim c.args.limits))
