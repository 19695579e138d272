use Rattle.laws_merging.proofs.TreeGroups.{plain_files_group}
use Rattle.laws_merging.proofs.grouping.plain_files_group.Goals as goal

pub returns : goal.returns
returns c = plain_files_group
