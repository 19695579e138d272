-- The key is that of the service, if any.
use Rattle.std.proofs.Common.{◌∙◌, [], Option, ap}
use Rattle.std.specs.Option.{option_map_or}
use Rattle.engine_types.specs.declared.DeclaredService.{DeclaredService}
use Rattle.plan_core.proofs.finding.service_key_at.Goals as goal

pub returns-in-Some : goal.returns-in-Some
returns-in-Some c = c.as_str.ensures.value ∙ ap (λ (o : Option DeclaredService). option_map_or (λ (service : DeclaredService). service.key) o []) c.in-Some.ensures.value

pub returns-in-None : goal.returns-in-None
returns-in-None c = ap (λ (o : Option DeclaredService). option_map_or (λ (service : DeclaredService). service.key) o []) c.in-None.ensures.value
