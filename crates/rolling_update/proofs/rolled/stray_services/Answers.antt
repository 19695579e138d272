-- A slot more.
use Rattle.engine_types.specs.declared.Slot.{Slot}
use Rattle.rolling_update.specs.Needs.{strays}
use Rattle.rolling_update.proofs.Turns.{kept_at}
use Rattle.rolling_update.proofs.rolled.stray_services.Goals as goal

pub loop-at-preserved : goal.loop-at-preserved
loop-at-preserved c =
    kept_at (λ (slot : Slot). slot.service) (strays c.args.finder.now.scene) c.args.finder.now.scene.declared.slots c.loop-at.at c.loop-at.services _ c.loop-at.invariant c.in_ok-push_stray.ensures
