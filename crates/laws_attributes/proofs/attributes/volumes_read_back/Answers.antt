use Rattle.laws_attributes.proofs.ReadBackLaws.{volumes_law}
use Rattle.laws_attributes.proofs.attributes.volumes_read_back.Goals as goal

pub returns : goal.returns
returns c = volumes_law
