use Rattle.std.proofs.Common.{◌≡◌, ◌∙◌, List, [], ◌∷◌, ap, inl, inr, reverse, subst, sym}
use Rattle.engine_types.specs.declared.Declared.{Declared}
use Rattle.engine_types.specs.declared.Entry.{Entry}
use Rattle.engine_types.specs.declared.Exchange.{Exchange}
use Rattle.engine_types.specs.declared.Plan.{Plan}
use Rattle.engine_types.specs.declared.RunLimits.{RunLimits}
use Rattle.journal_laws.specs.Courses.{Course, setup_of}
use Rattle.ledger_core.specs.Beginning.{run_of}
use Rattle.ledger_run.specs.Tellings.{telling}
use Rattle.ledger_run.specs.Works.{HasOnlySeen}
use Rattle.parallel_run.proofs.Carried.{worked_on}
use Rattle.project_run.proofs.Seeing.{begins_seen}
use Rattle.project_run.proofs.Working.{told_of}
use Rattle.project_run.specs.Carrying.{cut_short}
use Rattle.project_run.specs.Whole.{IsFault, IsReport}
use Rattle.run_model.specs.Ending.{first_fault}
use Rattle.run_model.specs.Lines.{report_text}
use Rattle.parallel_run.proofs.carrying.work_through.Goals as goal

pub end-ran-requires : goal.end-ran-requires
end-ran-requires g c = begins_seen c.args.ledger.journal c.finish-declared.result.2 c.in-Ok.ensures.more.0 c.requires.begun (c.finish-declared.ensures.journal ∙ c.in-Ok.ensures.more.1)

pub exchanges_of-requires : goal.exchanges_of-requires
exchanges_of-requires g c = subst (λ (r : Course). HasOnlySeen r.journal) (sym c.in-Err.ensures.back.0) c.requires.begun

pub returns-in-Ok-clause-worked : goal.returns-in-Ok-clause-worked
returns-in-Ok-clause-worked g c = λ observed is. inl (worked_on (λ h. telling (g.H.Hand.log h) (g.H.Hand.heard h) (g.H.Hand.faults h) (g.H.Hand.clock h) (g.H.Hand.engine h))
    c.args.ledger c.in-Ok.done.ledger c.end-ran.result.journal c.args.limits.deadline c.args.hands c.in-Ok.done.hands
    c.in-Ok.ensures.same (c.end-ran.ensures.journal ∙ c.finish-declared.ensures.journal) (ap (λ (l : RunLimits). l.deadline) c.requires.limits)
    c.in-Ok.ensures.more c.in-Ok.ensures.legal c.in-Ok.ensures.left c.in-Ok.ensures.hands)

pub returns-in-Ok-clause-fault : goal.returns-in-Ok-clause-fault
returns-in-Ok-clause-fault g c = told_of (λ (declared : Declared) (plan : Plan) (journal : List Entry). IsFault (first_fault (setup_of (run_of declared plan c.args.limits journal)) (reverse journal)) c.end-ran.result.fault)
    c.finish-declared.result.0 c.args.ledger.declared c.finish-declared.result.1 c.args.ledger.plan c.finish-declared.result.2 c.end-ran.result.journal
    (c.finish-declared.ensures.declared ∙ ap (λ (run : Course). run.declared) c.in-Ok.ensures.same) (c.finish-declared.ensures.plan ∙ ap (λ (run : Course). run.plan) c.in-Ok.ensures.same)
    c.end-ran.ensures.journal c.end-ran.ensures.fault

pub returns-in-Ok-clause-report : goal.returns-in-Ok-clause-report
returns-in-Ok-clause-report g c = told_of (λ (declared : Declared) (plan : Plan) (journal : List Entry). IsReport (report_text (setup_of (run_of declared plan c.args.limits journal)) (reverse journal)) c.end-ran.result.fault c.end-ran.result.report)
    c.finish-declared.result.0 c.args.ledger.declared c.finish-declared.result.1 c.args.ledger.plan c.finish-declared.result.2 c.end-ran.result.journal
    (c.finish-declared.ensures.declared ∙ ap (λ (run : Course). run.declared) c.in-Ok.ensures.same) (c.finish-declared.ensures.plan ∙ ap (λ (run : Course). run.plan) c.in-Ok.ensures.same)
    c.end-ran.ensures.journal c.end-ran.ensures.report

pub returns-in-Err-clause-worked : goal.returns-in-Err-clause-worked
returns-in-Err-clause-worked g c = λ observed is. inr (record {
  only = c.unbegun-ran.ensures.journal
      ∙ ap (λ (l : List Exchange). Entry.Seen (cut_short l) ∷ []) (c.exchanges_of.ensures observed (ap (λ (r : Course). r.journal) c.in-Err.ensures.back.0 ∙ is));
  alone = c.in-Err.ensures.back.1;
})

pub returns-in-Ok-clause-back : goal.returns-in-Ok-clause-back
returns-in-Ok-clause-back g c = c.finish-declared.ensures.declared ∙ ap (λ (run : Course). run.declared) c.in-Ok.ensures.same
