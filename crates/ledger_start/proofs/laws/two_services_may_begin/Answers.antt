use Rattle.ledger_start.proofs.TwoServices.{begins}
use Rattle.ledger_start.proofs.laws.two_services_may_begin.Goals as goal

pub returns : goal.returns
returns c = begins
