use Rattle.std.proofs.Common.{◌≡◌, ◌++◌, map, take}
use Rattle.plan_core.specs.Finding.{service_key_at}
use Rattle.plan_core.specs.Index.{seen_texts}
use Rattle.plan_core.proofs.finding.push_services.Given as goal

abbrev pub invariant-loop-service : goal.invariant-loop-service
invariant-loop-service l = seen_texts l.texts.items ≡ seen_texts l.initial.texts.items ++ map (service_key_at l.declared) (take l.service-index l.services)
