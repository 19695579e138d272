use Rattle.service_bases.proofs.InParts.{over_empty}
use Rattle.service_bases.proofs.laws.empty_bases_add_nothing.Goals as goal

pub returns : goal.returns
returns c = λ last top e h. over_empty last top e h
