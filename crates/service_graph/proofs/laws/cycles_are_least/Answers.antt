use Rattle.service_graph.proofs.Least.{cycles_least}
use Rattle.service_graph.proofs.laws.cycles_are_least.Goals as goal

pub returns : goal.returns
returns c = cycles_least
