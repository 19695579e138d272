use Rattle.std.proofs.Common.{◌≡◌, ◌∙◌, List, [], ◌∷◌, reverse, subst}
use Rattle.std.specs.Prelude.{IfOk}
use Rattle.engine_types.specs.declared.Entry.{Entry}
use Rattle.run_model.specs.Ending.{first_fault, seen_fault}
use Rattle.run_model.specs.Lines.{report_text}
use Rattle.run_model.specs.Runs.{unseen}
use Rattle.run_requests.specs.Setups.{of_one_worker}
use Rattle.project_run.proofs.ending.ended.Goals as goal

pub returns-clause-fault : goal.returns-clause-fault
returns-clause-fault c = λ task. c.ran.ensures.fault (seen_fault c.args.observed.end)
    (subst (λ (journal : List Entry). IfOk c.read_alone-reading.result (λ told. told.fault ≡ first_fault (of_one_worker c.args.declared.now unseen []) (reverse journal)))
    (c.as_slice.ensures ∙ c.only_seen-journal.ensures) c.read_alone-reading.ensures.fault)

pub returns-clause-report : goal.returns-clause-report
returns-clause-report c = λ task. c.ran.ensures.report []
    (subst (λ (journal : List Entry). IfOk c.read_alone-reading.result (λ told. told.report ≡ report_text (of_one_worker c.args.declared.now unseen []) (reverse journal)))
    (c.as_slice.ensures ∙ c.only_seen-journal.ensures) c.read_alone-reading.ensures.report)
