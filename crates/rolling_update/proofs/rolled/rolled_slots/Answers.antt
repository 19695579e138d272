-- A slot more.
use Rattle.std.proofs.Common.{false, arith}
use Rattle.run_model.specs.Rolling.{is_rolled}
use Rattle.rolling_update.specs.Needs.{rolling}
use Rattle.rolling_update.proofs.Turns.{map_at}
use Rattle.rolling_update.proofs.rolled.rolled_slots.Goals as goal

pub loop-at-preserved : goal.loop-at-preserved
loop-at-preserved c =
    map_at (is_rolled (rolling c.args.finder.now.scene)) c.args.finder.now.scene.declared.slots c.loop-at.at c.in_ok-is_rolled.field-0 false c.loop-at.rolled.items _ (omega arith) c.loop-at.invariant
    c.in_ok-push.ensures.items c.in_ok-is_rolled.ensures
