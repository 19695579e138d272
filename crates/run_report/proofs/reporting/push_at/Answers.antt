-- The entry at the place adds its line.
use Rattle.run_requests.specs.Setups.{setup_of}
use Rattle.run_report.proofs.ReportLines.{report_step}
use Rattle.run_report.proofs.reporting.push_at.Goals as goal

pub returns : goal.returns
returns c =
    let run = c.args.run.now in
    report_step (setup_of run) c.args.journal.now _ c.args.at c.index-journal-at.result _ _ _
    c.earlier.ensures c.requires c.index-journal-at.is c.push_entry.ensures
