use Rattle.laws_merging.proofs.Silent.{unspoken_stays_in_files}
use Rattle.laws_merging.proofs.unspoken.unspoken_stays_in_files.Goals as goal

pub returns : goal.returns
returns c = unspoken_stays_in_files
