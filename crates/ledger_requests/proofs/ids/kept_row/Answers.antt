use Rattle.std.proofs.Common.{ℕ, List, Option, None, get_or, ap, ◌∙◌}
use Rattle.std.specs.Prelude.{option_and_then, slice_get}
use Rattle.ledger_requests.proofs.ids.kept_row.Goals as goal

pub returns-in-Some : goal.returns-in-Some
returns-in-Some c = c.get.ensures.value
    ∙ ap (option_and_then (slice_get c.args.seen.now.containers)) (c.in-Some.ensures ∙ ap (λ (ks : List (Option ℕ)). get_or ks c.args.slot None) c.as_slice.ensures)

pub returns-in-None : goal.returns-in-None
returns-in-None c = ap (option_and_then (slice_get c.args.seen.now.containers)) (c.in-None.ensures ∙ ap (λ (ks : List (Option ℕ)). get_or ks c.args.slot None) c.as_slice.ensures)
