use Rattle.laws_attributes.proofs.ReadBackLaws.{services_law}
use Rattle.laws_attributes.proofs.attributes.services_read_back.Goals as goal

pub returns : goal.returns
returns c = services_law
