use Rattle.std.proofs.Common.{◌≡◌, ◌∙◌, Some, reverse, subst}
use Rattle.std.specs.Prelude.{IfOk}
use Rattle.engine_types.specs.declared.Seen.{Seen}
use Rattle.journal_laws.specs.Courses.{first_seen}
use Rattle.run_model.specs.Ending.{first_fault}
use Rattle.run_model.specs.Lines.{report_text}
use Rattle.project_run.proofs.ending.read_run.Goals as goal

pub returns-clause-fault : goal.returns-clause-fault
returns-clause-fault c =
    let same : Some c.in-Some.seen.now ≡ Some (first_seen c.args.journal.now) = c.in-Some.ensures ∙ c.requires in
    let seen : c.in-Some.seen.now ≡ first_seen c.args.journal.now = cc same in
    subst (λ (s : Seen). IfOk c.read_journal.result (λ reading. reading.fault
    ≡ first_fault (record { declared = c.args.declared.now; seen = s; actions = c.args.plan.now.actions; limits = c.args.limits }) (reverse c.args.journal.now))) seen c.read_journal.ensures.fault

pub returns-clause-report : goal.returns-clause-report
returns-clause-report c =
    let same : Some c.in-Some.seen.now ≡ Some (first_seen c.args.journal.now) = c.in-Some.ensures ∙ c.requires in
    let seen : c.in-Some.seen.now ≡ first_seen c.args.journal.now = cc same in
    subst (λ (s : Seen). IfOk c.read_journal.result (λ reading. reading.report
    ≡ report_text (record { declared = c.args.declared.now; seen = s; actions = c.args.plan.now.actions; limits = c.args.limits }) (reverse c.args.journal.now))) seen c.read_journal.ensures.report
