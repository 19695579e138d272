-- The networks of the slot are counted.
use Rattle.std.proofs.Common.{◌≡◌, ◌∙◌, [], Option, length, ap, subst}
use Rattle.std.specs.Option.{option_map_or}
use Rattle.engine_types.specs.declared.Slot.{Slot}
use Rattle.run_model.specs.Plans.{Basis}
use Rattle.plan_core.specs.Rows.{attaches_of}
use Rattle.plan_core.proofs.planner.Planner.attach_count.Goals as goal

pub returns-in-Some : goal.returns-in-Some
returns-in-Some c =
    subst (λ (b : Basis). c.len.result ≡ length (attaches_of b c.args.slot)) c.self.view_is
    (c.len.ensures ∙ ap (λ (o : Option Slot). length (option_map_or (λ (s : Slot). s.attach) o [])) c.in-Some.ensures.value)

pub returns-in-None : goal.returns-in-None
returns-in-None c =
    subst (λ (b : Basis). 0 ≡ length (attaches_of b c.args.slot)) c.self.view_is
    (ap (λ (o : Option Slot). length (option_map_or (λ (s : Slot). s.attach) o [])) c.in-None.ensures.value)
