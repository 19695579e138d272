-- The name is that of the slot, if any.
use Rattle.std.proofs.Common.{◌∙◌, [], Option, ap}
use Rattle.std.specs.Option.{option_map_or}
use Rattle.engine_types.specs.declared.Slot.{Slot}
use Rattle.plan_core.proofs.finding.slot_name_at.Goals as goal

pub returns-in-Some : goal.returns-in-Some
returns-in-Some c = c.as_str.ensures.value ∙ ap (λ (o : Option Slot). option_map_or (λ (slot : Slot). slot.name) o []) c.in-Some.ensures.value

pub returns-in-None : goal.returns-in-None
returns-in-None c = ap (λ (o : Option Slot). option_map_or (λ (slot : Slot). slot.name) o []) c.in-None.ensures.value
