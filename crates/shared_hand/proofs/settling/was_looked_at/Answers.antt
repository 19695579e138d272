-- What is found in a map is there.
use Rattle.std.proofs.Common.{◌∙◌, sym, ap}
use Rattle.std.specs.Prelude.{is_some}
use Rattle.memory_engine.proofs.Outcomes.{some_copied}
use Rattle.shared_hand.proofs.settling.was_looked_at.Goals as goal

pub returns : goal.returns
returns c = c.is_some.ensures ∙ sym (some_copied c.get.result) ∙ ap is_some c.get.ensures
