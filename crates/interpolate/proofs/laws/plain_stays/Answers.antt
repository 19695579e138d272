use Rattle.interpolate.specs.Substitution.{substituted}
use Rattle.interpolate.proofs.Filling.{valued_gives}
use Rattle.interpolate.proofs.Plain.{plain_value}
use Rattle.interpolate.proofs.laws.plain_stays.Goals as goal

pub returns : goal.returns
unfolding substituted
returns c = λ env text h fits. valued_gives 32 env text text (plain_value 32 env 0 text h) fits
