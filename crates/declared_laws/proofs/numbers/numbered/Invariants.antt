use Rattle.std.proofs.Common.{◌<◌, ◌^◌, take}
use Rattle.declared_slots.specs.Counts.{scale_of}
use Rattle.run_model.specs.EngineRules.{Among}
use Rattle.typed_project.specs.declared.service.Service.{Service}
use Rattle.declared_laws.proofs.numbers.numbered.Given as goal

abbrev pub invariant-loop-service : goal.invariant-loop-service
invariant-loop-service l = (service : Service) → Among (take l.service-index l.services) service → scale_of l.scales service < 2 ^ 32
