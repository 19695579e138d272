use Rattle.laws_loading.proofs.Loads.{files_loaded}
use Rattle.laws_loading.proofs.file_forms.settled_files_are_loaded.Goals as goal

pub returns : goal.returns
returns c = files_loaded
