use Rattle.std.proofs.Common.{◌≡◌, ◌∷◌, map, take}
use Rattle.std.specs.List.{flat_map}
use Rattle.file_paths.proofs.path.path_through.Given as goal

abbrev pub invariant-loop-part : goal.invariant-loop-part
invariant-loop-part l = l.path ≡ flat_map (λ p. 47 ∷ p) (map (λ part. part.now) (take l.part-index l.parts))
