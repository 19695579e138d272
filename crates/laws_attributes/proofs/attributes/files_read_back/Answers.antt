use Rattle.laws_attributes.proofs.ReadBackLaws.{files_law}
use Rattle.laws_attributes.proofs.attributes.files_read_back.Goals as goal

pub returns : goal.returns
returns c = files_law
