use Rattle.declared_laws.proofs.Twice.{told_of_twins}
use Rattle.declared_laws.proofs.laws.twice_is_told_of_twins.Goals as goal

pub returns : goal.returns
returns c = told_of_twins
