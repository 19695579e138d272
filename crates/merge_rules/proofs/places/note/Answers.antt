use Rattle.std.proofs.Common.{◌∙◌, Some, None, sym}
use Rattle.merge_rules.proofs.places.note.Goals as goal

pub returns-in-None-clause-noted : goal.returns-in-None-clause-noted
returns-in-None-clause-noted c = λ mark marked. absurd (cc (sym marked ∙ sym c.in_ok-mark.ensures ∙ c.in-None.is))
