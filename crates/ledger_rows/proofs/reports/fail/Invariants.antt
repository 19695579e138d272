use Rattle.ledger_rows.proofs.reports.fail.Given as goal

abbrev pub ghost-lose : goal.ghost-lose
ghost-lose g a = record { setup = g.report.setup; facts = g.report.after; journal = g.report.journal }
