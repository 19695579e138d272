use Rattle.std.proofs.Common.{◌∙◌, Some, ap}
use Rattle.attribute_rows.proofs.texts.text_in.Goals as goal

pub returns-in_ok-copy-in-Some : goal.returns-in_ok-copy-in-Some
returns-in_ok-copy-in-Some c = ap Some c.in_ok-copy-in-Some.ensures ∙ c.in-Some.ensures

pub returns-in-None : goal.returns-in-None
returns-in-None c = c.in-None.ensures
