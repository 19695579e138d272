use Rattle.laws_attributes.proofs.ReadBackLaws.{named_volumes_law}
use Rattle.laws_attributes.proofs.attributes.named_volumes_read_back.Goals as goal

pub returns : goal.returns
returns c = named_volumes_law
