use Rattle.std.proofs.Common.{◌≡◌, map, take}
use Rattle.loading_words.specs.Messages.{service_words}
use Rattle.loading_words.proofs.cycle.services_words.Given as goal

abbrev pub invariant-loop-service : goal.invariant-loop-service
invariant-loop-service l = l.names ≡ map service_words (take l.service-index l.services)
