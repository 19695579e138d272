use Rattle.std.proofs.Common.{◌≡◌, ◌∙◌, List, Option, ap, reverse}
use Rattle.engine_types.specs.declared.Declared.{Declared}
use Rattle.engine_types.specs.declared.Entry.{Entry}
use Rattle.engine_types.specs.declared.Plan.{Plan}
use Rattle.engine_types.specs.declared.RunLimits.{RunLimits}
use Rattle.journal_laws.specs.Courses.{Course, setup_of}
use Rattle.ledger_core.specs.Beginning.{run_of}
use Rattle.ledger_run.specs.Tellings.{telling}
use Rattle.project_run.proofs.Working.{told_of, worked}
use Rattle.project_run.proofs.Seeing.{begins_seen}
use Rattle.project_run.specs.Whole.{IsFault, IsReport}
use Rattle.run_model.specs.Ending.{first_fault}
use Rattle.run_model.specs.Lines.{report_text}
use Rattle.project_run.proofs.carrying.work_through.Goals as goal

pub end-ran-requires : goal.end-ran-requires
end-ran-requires g c = begins_seen c.args.ledger.journal c.finish-declared.result.2 c.work.ensures.more.0 c.requires.begun (c.finish-declared.ensures.journal ∙ c.work.ensures.more.1)

pub returns-clause-worked : goal.returns-clause-worked
returns-clause-worked g c =
    worked c.args.ledger c.work.new.ledger c.end-ran.result.journal c.args.limits.deadline
    (telling (g.H.Hand.log c.args.hand.now) (g.H.Hand.heard c.args.hand.now) (g.H.Hand.faults c.args.hand.now) (g.H.Hand.clock c.args.hand.now) (g.H.Hand.engine c.args.hand.now))
    (telling (g.H.Hand.log c.work.new.hand) (g.H.Hand.heard c.work.new.hand) (g.H.Hand.faults c.work.new.hand) (g.H.Hand.clock c.work.new.hand) (g.H.Hand.engine c.work.new.hand))
    c.work.ensures.same (c.end-ran.ensures.journal ∙ c.finish-declared.ensures.journal) (ap (λ (l : RunLimits). l.deadline) c.requires.limits)
    c.work.ensures.more c.work.ensures.legal c.work.ensures.left c.work.ensures.log c.work.ensures.told c.work.ensures.steps c.work.ensures.caused c.work.ensures.timed

pub returns-clause-fault : goal.returns-clause-fault
returns-clause-fault g c = told_of (λ (declared : Declared) (plan : Plan) (journal : List Entry). IsFault (first_fault (setup_of (run_of declared plan c.args.limits journal)) (reverse journal)) c.end-ran.result.fault)
    c.finish-declared.result.0 c.args.ledger.declared c.finish-declared.result.1 c.args.ledger.plan c.finish-declared.result.2 c.end-ran.result.journal
    (c.finish-declared.ensures.declared ∙ ap (λ (run : Course). run.declared) c.work.ensures.same) (c.finish-declared.ensures.plan ∙ ap (λ (run : Course). run.plan) c.work.ensures.same)
    c.end-ran.ensures.journal c.end-ran.ensures.fault

pub returns-clause-report : goal.returns-clause-report
returns-clause-report g c = told_of (λ (declared : Declared) (plan : Plan) (journal : List Entry). IsReport (report_text (setup_of (run_of declared plan c.args.limits journal)) (reverse journal)) c.end-ran.result.fault c.end-ran.result.report)
    c.finish-declared.result.0 c.args.ledger.declared c.finish-declared.result.1 c.args.ledger.plan c.finish-declared.result.2 c.end-ran.result.journal
    (c.finish-declared.ensures.declared ∙ ap (λ (run : Course). run.declared) c.work.ensures.same) (c.finish-declared.ensures.plan ∙ ap (λ (run : Course). run.plan) c.work.ensures.same)
    c.end-ran.ensures.journal c.end-ran.ensures.report

pub returns-clause-back : goal.returns-clause-back
returns-clause-back g c = c.finish-declared.ensures.declared ∙ ap (λ (run : Course). run.declared) c.work.ensures.same
