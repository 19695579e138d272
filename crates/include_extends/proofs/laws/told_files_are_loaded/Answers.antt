use Rattle.loaded_files.proofs.Runs.{ran_told}
use Rattle.include_extends.proofs.laws.told_files_are_loaded.Goals as goal

pub returns : goal.returns
returns c = λ files load result. ran_told files load result
