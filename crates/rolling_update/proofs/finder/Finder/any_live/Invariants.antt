use Rattle.std.proofs.Common.{◌≡◌, false, take}
use Rattle.std.specs.List.{list_any}
use Rattle.run_model.specs.EngineRules.{is_live}
use Rattle.rolling_update.specs.Needs.{is_seen_at}
use Rattle.rolling_update.proofs.finder.Finder.any_live.Given as goal

abbrev pub invariant-loop-place : goal.invariant-loop-place
invariant-loop-place l = list_any (is_seen_at l.self.scene l.slot (λ row. is_live row.state)) (take l.place-index l.places) ≡ false
