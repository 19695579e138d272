-- Where a container stands there, it is asked.
use Rattle.std.proofs.Common.{◌≡◌, Option, IfOk, ap, false, subst}
use Rattle.std.specs.Option.{option_map_or}
use Rattle.engine_types.specs.declared.Listed.{Listed}
use Rattle.run_model.specs.Plans.{agrees_seen}
use Rattle.plan_core.proofs.keeping.agrees_at.Goals as goal

pub returns-in-Some : goal.returns-in-Some
returns-in-Some c =
    subst (λ (o : Option Listed). IfOk c.agrees_seen.result (λ answer. answer ≡ option_map_or (agrees_seen c.args.declared.now c.args.seen.now c.args.slot.now) o false)) c.in-Some.ensures.value c.agrees_seen.ensures

pub returns-in-None : goal.returns-in-None
returns-in-None c = ap (λ (o : Option Listed). option_map_or (agrees_seen c.args.declared.now c.args.seen.now c.args.slot.now) o false) c.in-None.ensures.value
