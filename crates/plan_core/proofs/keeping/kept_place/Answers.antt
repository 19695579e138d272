-- The container is found under the slot's text.
use Rattle.std.proofs.Common.{◌∙◌, ℕ, List, ap}
use Rattle.plan_core.specs.Finding.{slot_text}
use Rattle.plan_core.specs.Index.{numbers_under}
use Rattle.plan_core.proofs.SlotRows.{kept_by}
use Rattle.plan_core.proofs.keeping.kept_place.Goals as goal

pub returns : goal.returns
returns c = kept_by c.args.declared.now c.args.seen.now c.args.slot.now c.kept_among.result c.find.result.now
    (c.find.ensures ∙ ap (numbers_under c.args.rows.now) (c.as_str.ensures.value ∙ c.in_ok-text.ensures)
    ∙ ap (λ (entries : List (List ℕ × ℕ)). numbers_under entries (slot_text c.args.slot.now)) c.requires)
    c.kept_among.ensures
