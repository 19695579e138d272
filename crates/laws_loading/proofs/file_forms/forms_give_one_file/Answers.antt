use Rattle.laws_loading.proofs.OneFile.{one_file}
use Rattle.laws_loading.proofs.file_forms.forms_give_one_file.Goals as goal

pub returns : goal.returns
returns c = one_file
