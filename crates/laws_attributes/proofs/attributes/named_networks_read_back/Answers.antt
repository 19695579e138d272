use Rattle.laws_attributes.proofs.ReadBackLaws.{named_networks_law}
use Rattle.laws_attributes.proofs.attributes.named_networks_read_back.Goals as goal

pub returns : goal.returns
returns c = named_networks_law
