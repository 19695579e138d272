-- A container of the slot is found under the slot's text.
use Rattle.std.proofs.Common.{◌∙◌, ℕ, List, ap}
use Rattle.plan_core.specs.Finding.{slot_text}
use Rattle.plan_core.specs.Index.{numbers_under}
use Rattle.plan_core.proofs.SlotRows.{has_by}
use Rattle.plan_core.proofs.keeping.has_container.Goals as goal

pub returns : goal.returns
returns c = has_by c.args.declared.now c.args.seen.now c.args.slot.now c.any_is_slots.result c.find.result.now
    (c.find.ensures ∙ ap (numbers_under c.args.rows.now) (c.as_str.ensures.value ∙ c.in_ok-text.ensures)
    ∙ ap (λ (entries : List (List ℕ × ℕ)). numbers_under entries (slot_text c.args.slot.now)) c.requires)
    c.any_is_slots.ensures
