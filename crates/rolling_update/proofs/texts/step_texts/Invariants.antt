use Rattle.std.proofs.Common.{◌≡◌, map, take}
use Rattle.plan_core.specs.Finding.{container_text, slot_text}
use Rattle.rolling_update.specs.Needs.{Scene, step_text}
use Rattle.rolling_update.proofs.texts.step_texts.Given as goal

abbrev pub invariant-loop-action : goal.invariant-loop-action
invariant-loop-action l =
    (scene : Scene) → l.slots ≡ map slot_text scene.declared.slots → l.rows ≡ map container_text scene.seen.containers
    → l.texts ≡ map (step_text scene) (take l.action-index l.actions)
