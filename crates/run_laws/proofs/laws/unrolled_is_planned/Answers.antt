use Rattle.run_model.proofs.RollLaws.{unrolled}
use Rattle.run_laws.proofs.laws.unrolled_is_planned.Goals as goal

pub returns : goal.returns
returns c = unrolled
