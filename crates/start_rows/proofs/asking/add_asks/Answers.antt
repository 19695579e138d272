use Rattle.start_rows.proofs.Askers.{asked_more}
use Rattle.start_rows.proofs.asking.add_asks.Goals as goal

pub loop-need-preserved : goal.loop-need-preserved
loop-need-preserved c = asked_more c.args.ask c.args.condition c.args.rows.now c.loop-need.rows c.add_ask.new.rows c.args.needs.now c.loop-need.need-index c.args.action _ c.loop-need-test.true c.loop-need.auto.rows c.in_ok-add_ask.ensures.ok c.loop-need.invariant
