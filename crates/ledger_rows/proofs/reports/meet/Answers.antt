use Rattle.std.proofs.Common.{arith}
use Rattle.ledger_rows.proofs.Meeting.{met_kept, rows_met}
use Rattle.ledger_rows.proofs.reports.meet.Goals as goal

pub release-requires-clause-kept : goal.release-requires-clause-kept
release-requires-clause-kept g c =
    λ a. let e = c.requires.1.1.1.1.each a in
    let k = met_kept g.report.setup g.report.before g.report.after g.report.journal c.args.rows.now g.report.slot g.report.condition c.requires.1.0 c.requires.1.1.0 c.requires.1.1.1.0 c.requires.0 a in
    omega (arith, e, k)

pub returns-clause-said : goal.returns-clause-said
returns-clause-said g c =
    rows_met g.report.setup g.report.before g.report.after g.report.journal c.args.rows.now c.release.new.rows g.report.slot g.report.condition c.requires.1.0 c.requires.1.1.0 c.requires.1.1.1.0
    c.release.ensures.states c.release.ensures.size (λ a l. let e = c.requires.1.1.1.1.each a in let f = c.release.ensures.lacks a in omega (arith, e, f)) c.requires.0
