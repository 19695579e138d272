use Rattle.merge_rules.proofs.Unchanged.{files_stand}
use Rattle.merge_rules.proofs.laws.files_stand.Goals as goal

pub returns : goal.returns
returns c = files_stand
