use Rattle.std.proofs.Common.{◌≡◌, map, take}
use Rattle.run_model.specs.Rolling.{is_rolled}
use Rattle.rolling_update.specs.Needs.{rolling}
use Rattle.rolling_update.proofs.rolled.rolled_slots.Given as goal

abbrev pub invariant-loop-at : goal.invariant-loop-at
invariant-loop-at l = l.rolled.items ≡ map (is_rolled (rolling l.finder.scene)) (take l.at l.finder.scene.declared.slots)
