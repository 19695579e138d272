use Rattle.merge_rules.proofs.UnmarkedFiles.{unmarked_files_laid}
use Rattle.merge_rules.proofs.laws.unmarked_files_laid.Goals as goal

pub returns : goal.returns
returns c = unmarked_files_laid
