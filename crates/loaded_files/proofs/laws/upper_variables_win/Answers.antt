use Rattle.loaded_files.proofs.Winning.{wins}
use Rattle.loaded_files.proofs.laws.upper_variables_win.Goals as goal

pub returns : goal.returns
returns c = wins
