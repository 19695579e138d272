use Rattle.laws_attributes.proofs.ReadBackLaws.{networks_law}
use Rattle.laws_attributes.proofs.attributes.networks_read_back.Goals as goal

pub returns : goal.returns
returns c = networks_law
