use Rattle.std.proofs.Common.{◌≡◌, ◌++◌, codes, take}
use Rattle.std.specs.List.{flat_map}
use Rattle.loading_words.proofs.message.cycle_words.Given as goal

abbrev pub invariant-loop-service : goal.invariant-loop-service
invariant-loop-service l = l.words ≡ codes "dependency cycle:" ++ flat_map (λ service. codes " " ++ service) (take l.service-index l.services)
