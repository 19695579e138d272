use Rattle.run_model.proofs.ToldLaws.{seen_is_told}
use Rattle.run_laws.proofs.laws.seen_is_told.Goals as goal

pub returns : goal.returns
returns c = seen_is_told
