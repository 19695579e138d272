use Rattle.service_hashes.proofs.Telling.{tells}
use Rattle.service_hashes.proofs.laws.texts_tell.Goals as goal

pub returns : goal.returns
returns c = tells
