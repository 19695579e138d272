use Rattle.std.proofs.Common.{get_or, arith}
use Rattle.std.proofs.lemmas.Option.{slice_get-get_or}
use Rattle.ledger_rows.proofs.Adding.{added_more}
use Rattle.ledger_rows.proofs.dependents.add_to_all.Goals as goal

pub loop-need-preserved : goal.loop-need-preserved
loop-need-preserved c =
    let h = c.requires c.loop-need.need-index (get_or c.args.needs.now c.loop-need.need-index 0) (slice_get-get_or c.args.needs.now c.loop-need.need-index 0 c.loop-need-test.true) in
    added_more c.args.rows.now c.loop-need.rows c.add.new.rows c.args.needs.now c.loop-need.need-index c.args.action c.loop-need-test.true (omega (arith, h, c.loop-need.auto.rows)) c.in_ok-add.ensures.ok c.loop-need.invariant
