use Rattle.laws_loading.proofs.SettledModels.{settled_models}
use Rattle.laws_loading.proofs.models.settled_models_are_their_files.Goals as goal

pub returns : goal.returns
returns c = settled_models
