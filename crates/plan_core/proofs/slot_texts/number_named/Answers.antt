-- The text is the label's value, if any.
use Rattle.std.proofs.Common.{◌∙◌, ℕ, List, [], Option, ap, unwrap_or}
use Rattle.plan_core.proofs.slot_texts.number_named.Goals as goal

pub returns-in-Some : goal.returns-in-Some
returns-in-Some c = c.as_str.ensures.value ∙ ap (λ (o : Option (List ℕ)). unwrap_or o []) c.in-Some.ensures

pub returns-in-None : goal.returns-in-None
returns-in-None c = ap (λ (o : Option (List ℕ)). unwrap_or o []) c.in-None.ensures
