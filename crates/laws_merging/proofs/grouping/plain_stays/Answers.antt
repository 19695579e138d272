use Rattle.laws_merging.proofs.TreeGroups.{plain_stays}
use Rattle.laws_merging.proofs.grouping.plain_stays.Goals as goal

pub returns : goal.returns
returns c = plain_stays
