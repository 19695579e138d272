use Rattle.laws_merging.proofs.WithoutUnique.{without_unique_plain}
use Rattle.laws_merging.proofs.grouping.without_unique_plain.Goals as goal

pub returns : goal.returns
returns c = without_unique_plain
