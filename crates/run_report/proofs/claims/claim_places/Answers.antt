-- One entry more, before the others.
use Rattle.std.proofs.Common.{◌≡◌, ◌+◌, ◌-◌, ◌<◌, length, arith}
use Rattle.run_report.proofs.Places.{entered_more}
use Rattle.run_report.proofs.claims.claim_places.Goals as goal

pub loop-at-preserved : goal.loop-at-preserved
loop-at-preserved c =
    let within : c.loop-at.at - 1 < length c.args.journal.now = omega (arith, c.loop-at.invariant.within) in
    let step : c.loop-at.at ≡ (c.loop-at.at - 1) + 1 = omega arith in
    entered_more c.args.journal.now c.args.count c.loop-at.claims.items c.enter.new.claims.items c.loop-at.at (c.loop-at.at - 1) c.index-journal-at.result step within c.index-journal-at.is c.enter.ensures c.loop-at.invariant
