use Rattle.std.proofs.Common.{sym, ◌∙◌, ap, length, arith}
use Rattle.ledger_rows.proofs.Failing.{failed_kept, fails_by}
use Rattle.ledger_rows.proofs.Freshening.{blocked_before}
use Rattle.ledger_rows.proofs.reports.fail.Goals as goal

pub release-requires-clause-kept : goal.release-requires-clause-kept
release-requires-clause-kept g c =
    λ a. let e = c.requires.1.1.1.1.1.0.each a in
    let k = failed_kept g.report.setup g.report.before g.report.after g.report.journal c.args.rows.now g.report.slot g.report.condition c.requires.1.0 c.requires.1.1.0 c.requires.1.1.1.0 c.requires.0 a in
    omega (arith, e, k)

pub lose-requires : goal.lose-requires
lose-requires g c = (
  c.requires.1.1.1.1.1.1.0,
  (
    c.requires.1.1.1.1.1.1.1.0,
    (
      fails_by g.report.setup g.report.before g.report.after g.report.journal c.args.rows.now c.release.new.rows c.block.new.rows c.args.pending.now c.block.new.pending g.report.slot g.report.condition
          c.args.required.now c.args.optional.now c.requires.1.0 c.requires.1.1.0 c.requires.1.1.1.0 c.requires.0 c.requires.1.1.1.1.0.each c.requires.1.1.1.1.1.0.each c.requires.1.1.1.1.1.1.1.1.0 c.requires.1.1.1.1.1.1.1.1.1.0
          c.release.ensures.states c.release.ensures.size c.release.ensures.lacks c.block.ensures,
      c.requires.1.1.1.1.1.1.1.1.1.1 ∙ sym (c.block.ensures.size ∙ ap length c.release.ensures.states),
    ),
  ),
)

pub returns-clause-before : goal.returns-clause-before
returns-clause-before g c =
    λ a. c.lose.ensures.before a ∙ blocked_before c.args.required.now c.args.rows.now c.release.new.rows c.block.new.rows c.args.pending.now c.block.new.pending c.args.fresh.now c.block.ensures c.release.ensures.states
    c.requires.1.1.1.1.1.1.1.1.0 a
