use Rattle.laws_hashes.proofs.Services.{own_texts_tell}
use Rattle.laws_hashes.proofs.laws.own_texts_tell_services.Goals as goal

pub returns : goal.returns
returns c = own_texts_tell
