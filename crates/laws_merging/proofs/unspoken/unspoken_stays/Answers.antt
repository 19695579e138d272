use Rattle.laws_merging.proofs.Silent.{unspoken_stays}
use Rattle.laws_merging.proofs.unspoken.unspoken_stays.Goals as goal

pub returns : goal.returns
returns c = unspoken_stays
