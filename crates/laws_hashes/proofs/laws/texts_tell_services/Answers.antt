use Rattle.laws_hashes.proofs.Texts.{texts_tell}
use Rattle.laws_hashes.proofs.laws.texts_tell_services.Goals as goal

pub returns : goal.returns
returns c = texts_tell
