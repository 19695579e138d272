use Rattle.std.proofs.Common.{◌≡◌, false, take}
use Rattle.std.specs.List.{list_any}
use Rattle.run_model.specs.Rolling.{has_name_of_another}
use Rattle.rolling_update.specs.Needs.{is_seen_at}
use Rattle.rolling_update.proofs.finder.Finder.any_strays.Given as goal

abbrev pub invariant-loop-place : goal.invariant-loop-place
invariant-loop-place l = list_any (is_seen_at l.self.scene l.slot (has_name_of_another l.self.scene.declared l.slot)) (take l.place-index l.places) ≡ false
