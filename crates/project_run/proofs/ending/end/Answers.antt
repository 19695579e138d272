use Rattle.std.proofs.Common.{◌≡◌, List, reverse, subst}
use Rattle.std.specs.Prelude.{IfOk}
use Rattle.engine_types.specs.declared.Entry.{Entry}
use Rattle.journal_laws.specs.Courses.{setup_of}
use Rattle.ledger_core.specs.Beginning.{run_of}
use Rattle.run_model.specs.Ending.{first_fault}
use Rattle.run_model.specs.Lines.{report_text}
use Rattle.project_run.proofs.ending.end.Goals as goal

pub returns-clause-fault : goal.returns-clause-fault
returns-clause-fault c = c.ran.ensures.fault (first_fault (setup_of (run_of c.args.declared.now c.args.plan.now c.args.limits c.args.journal)) (reverse c.args.journal))
    (subst (λ (journal : List Entry). IfOk c.read_run-reading.result (λ told. told.fault ≡ first_fault (setup_of (run_of c.args.declared.now c.args.plan.now c.args.limits journal)) (reverse journal)))
    c.as_slice.ensures c.read_run-reading.ensures.fault)

pub returns-clause-report : goal.returns-clause-report
returns-clause-report c = c.ran.ensures.report (report_text (setup_of (run_of c.args.declared.now c.args.plan.now c.args.limits c.args.journal)) (reverse c.args.journal))
    (subst (λ (journal : List Entry). IfOk c.read_run-reading.result (λ told. told.report ≡ report_text (setup_of (run_of c.args.declared.now c.args.plan.now c.args.limits journal)) (reverse journal)))
    c.as_slice.ensures c.read_run-reading.ensures.report)
