use Rattle.laws_loading.proofs.OneModel.{one_model}
use Rattle.laws_loading.proofs.file_forms.one_file_gives_one_model.Goals as goal

pub returns : goal.returns
returns c = one_model
