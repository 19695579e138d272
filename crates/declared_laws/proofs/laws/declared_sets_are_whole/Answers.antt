use Rattle.declared_laws.proofs.Whole.{declares_whole}
use Rattle.declared_laws.proofs.laws.declared_sets_are_whole.Goals as goal

pub returns : goal.returns
returns c = declares_whole
