-- One need more.
use Rattle.std.proofs.Common.{arith}
use Rattle.run_report.proofs.Wanting.{takes_all, takes_at, takes_none}
use Rattle.run_report.proofs.wanted.want_all.Goals as goal

pub loop-at-init : goal.loop-at-init
loop-at-init c = takes_none c.args.needs.now c.args.place c.args.rows.now.items

pub loop-at-preserved : goal.loop-at-preserved
loop-at-preserved c =
    takes_at c.args.needs.now c.args.place c.args.rows.now.items c.loop-at.rows.items c.want.new.rows.items c.loop-at.at _ (omega arith) c.want.ensures c.loop-at.invariant

pub returns-clause-grown : goal.returns-clause-grown
returns-clause-grown c = c.loop-at.invariant.grown

pub returns-clause-wanted : goal.returns-clause-wanted
returns-clause-wanted c = takes_all c.args.needs.now c.args.place c.args.rows.now.items c.loop-at.rows.items c.loop-at.at (omega arith) c.loop-at.invariant
