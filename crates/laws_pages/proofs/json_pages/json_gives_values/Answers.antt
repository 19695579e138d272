use Rattle.laws_pages.proofs.JsonValues.{values_given}
use Rattle.laws_pages.proofs.json_pages.json_gives_values.Goals as goal

pub returns : goal.returns
returns c = values_given
