use Rattle.interpolate.specs.Laws.{doubled}
use Rattle.interpolate.specs.Substitution.{substituted}
use Rattle.interpolate.proofs.Filling.{valued_gives}
use Rattle.interpolate.proofs.Plain.{doubled_value}
use Rattle.interpolate.proofs.laws.doubled_comes_back.Goals as goal

pub returns : goal.returns
unfolding substituted
returns c = λ env text fits. valued_gives 32 env (doubled text) text (doubled_value 32 env 0 text) fits
