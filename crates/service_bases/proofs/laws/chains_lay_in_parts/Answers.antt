use Rattle.service_bases.proofs.InParts.{in_parts}
use Rattle.service_bases.proofs.laws.chains_lay_in_parts.Goals as goal

pub returns : goal.returns
returns c = λ last lower upper. in_parts lower upper last.service
