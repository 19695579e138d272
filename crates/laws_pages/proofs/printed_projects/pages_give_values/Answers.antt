use Rattle.laws_pages.proofs.Values.{values_given}
use Rattle.laws_pages.proofs.printed_projects.pages_give_values.Goals as goal

pub returns : goal.returns
returns c = values_given
