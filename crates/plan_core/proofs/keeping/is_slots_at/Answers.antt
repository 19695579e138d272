-- Where a container stands there, it is asked.
use Rattle.std.proofs.Common.{◌≡◌, Option, IfOk, ap, false, subst}
use Rattle.std.specs.Option.{option_map_or}
use Rattle.engine_types.specs.declared.Listed.{Listed}
use Rattle.run_model.specs.Labels.{is_of_slot}
use Rattle.plan_core.proofs.keeping.is_slots_at.Goals as goal

pub returns-in-Some : goal.returns-in-Some
returns-in-Some c =
    subst (λ (o : Option Listed). IfOk c.is_of_slot.result (λ answer. answer ≡ option_map_or (λ (row : Listed). is_of_slot c.args.declared.now.project c.args.slot.now row.labels) o false)) c.in-Some.ensures.value c.is_of_slot.ensures

pub returns-in-None : goal.returns-in-None
returns-in-None c = ap (λ (o : Option Listed). option_map_or (λ (row : Listed). is_of_slot c.args.declared.now.project c.args.slot.now row.labels) o false) c.in-None.ensures.value
