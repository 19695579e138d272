use Rattle.std.proofs.Common.{◌∙◌, ap}
use Rattle.std.specs.Prelude.{not}
use Rattle.attribute_scalars.specs.Walks.{is_given}
use Rattle.attribute_rows.proofs.attributes.is_there.Goals as goal

pub returns-in-Some : goal.returns-in-Some
returns-in-Some c = ap not c.is_null.ensures ∙ ap is_given c.in-Some.ensures

pub returns-in-None : goal.returns-in-None
returns-in-None c = ap is_given c.in-None.ensures
