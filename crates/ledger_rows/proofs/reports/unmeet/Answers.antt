use Rattle.std.proofs.Common.{arith}
use Rattle.ledger_rows.proofs.Meeting.{rows_unmet}
use Rattle.ledger_rows.proofs.reports.unmeet.Goals as goal

pub returns-clause-said : goal.returns-clause-said
returns-clause-said g c =
    rows_unmet g.report.setup g.report.before g.report.after g.report.journal c.args.rows.now c.raise.new.rows g.report.slot g.report.condition c.requires.1.0 c.requires.1.1.0 c.requires.1.1.1.0
    c.raise.ensures.states c.raise.ensures.size (λ a l. let e = c.requires.1.1.1.1.0.each a in let f = c.raise.ensures.lacks a in omega (arith, e, f)) c.requires.0
