-- The slot that labels name is found under their text.
use Rattle.std.proofs.Common.{◌∙◌, ℕ, List, ap}
use Rattle.plan_core.specs.Finding.{container_text}
use Rattle.plan_core.specs.Index.{numbers_under}
use Rattle.ledger_start.proofs.SlotSeconds.{seconds_found}
use Rattle.ledger_start.proofs.seconds.slot_seconds.Goals as goal

pub returns : goal.returns
returns c = seconds_found c.args.declared.now c.args.row.now c.seconds_among.result c.find.result.now
    (c.find.ensures ∙ ap (numbers_under c.args.slots.now) (c.as_str.ensures.value ∙ c.in_ok-text.ensures)
    ∙ ap (λ (entries : List (List ℕ × ℕ)). numbers_under entries (container_text c.args.row.now)) c.requires)
    c.seconds_among.ensures
