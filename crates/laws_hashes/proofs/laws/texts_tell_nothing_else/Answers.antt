use Rattle.laws_hashes.proofs.Texts.{nothing_else}
use Rattle.laws_hashes.proofs.laws.texts_tell_nothing_else.Goals as goal

pub returns : goal.returns
returns c = nothing_else
