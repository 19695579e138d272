-- The seconds are those of the slot, if any.
use Rattle.std.proofs.Common.{Option, ap}
use Rattle.std.specs.Option.{option_map_or}
use Rattle.engine_types.specs.declared.Slot.{Slot}
use Rattle.ledger_start.proofs.seconds.seconds_at.Goals as goal

pub returns-in-Some : goal.returns-in-Some
returns-in-Some c = ap (λ (o : Option Slot). option_map_or (λ (slot : Slot). slot.stop_seconds) o 10) c.in-Some.ensures.value

pub returns-in-None : goal.returns-in-None
returns-in-None c = ap (λ (o : Option Slot). option_map_or (λ (slot : Slot). slot.stop_seconds) o 10) c.in-None.ensures.value
