-- A place more is looked at.
use Rattle.std.proofs.Common.{get_or}
use Rattle.plan_core.proofs.Loops.{get_or_same}
use Rattle.rolling_update.specs.Needs.{starts_at}
use Rattle.rolling_update.proofs.Turns.{passed_turn}
use Rattle.rolling_update.proofs.steps.push_starts_among.Goals as goal

pub loop-place-preserved : goal.loop-place-preserved
loop-place-preserved c =
    let places = c.args.places.now in
    let i = c.loop-place.place-index in
    let place = get_or places i 0 in
    passed_turn places i place c.loop-place-test.true (get_or_same places i 0 place c.loop-place-test.true) (starts_at c.args.actions.now c.args.number) c.starts_at.result
    c.args.added.now.items c.loop-place.added.items _ c.loop-place.invariant c.in_ok-push_if.ensures c.starts_at.ensures
