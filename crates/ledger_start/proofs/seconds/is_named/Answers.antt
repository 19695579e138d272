-- Where a slot stands there, it is asked.
use Rattle.std.proofs.Common.{◌≡◌, Option, IfOk, ap, false, subst}
use Rattle.std.specs.Option.{option_map_or}
use Rattle.engine_types.specs.declared.Slot.{Slot}
use Rattle.run_model.specs.Labels.{names_slot}
use Rattle.ledger_start.proofs.seconds.is_named.Goals as goal

pub returns-in-Some : goal.returns-in-Some
returns-in-Some c =
    subst (λ (o : Option Slot). IfOk c.names_slot.result (λ named. named ≡ option_map_or (λ (slot : Slot). names_slot slot c.args.row.now.labels) o false)) c.in-Some.ensures.value c.names_slot.ensures

pub returns-in-None : goal.returns-in-None
returns-in-None c = ap (λ (o : Option Slot). option_map_or (λ (slot : Slot). names_slot slot c.args.row.now.labels) o false) c.in-None.ensures.value
