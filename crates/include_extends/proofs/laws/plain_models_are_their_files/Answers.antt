use Rattle.include_extends.proofs.PlainModels.{plain_models}
use Rattle.include_extends.proofs.laws.plain_models_are_their_files.Goals as goal

pub returns : goal.returns
returns c = plain_models
