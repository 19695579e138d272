use Rattle.std.proofs.Common.{◌≡◌, [], map, fold, take}
use Rattle.file_paths.specs.Paths.{after_part}
use Rattle.file_paths.proofs.path.parts_of.Given as goal

abbrev pub invariant-loop-step : goal.invariant-loop-step
invariant-loop-step l = map (λ part. part.now) l.parts.items ≡ fold after_part [] (take l.step-index (map (λ part. part.now) l.step-items))
