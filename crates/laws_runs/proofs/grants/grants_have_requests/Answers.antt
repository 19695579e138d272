use Rattle.laws_runs.proofs.Granted.{grants_ask}
use Rattle.laws_runs.proofs.grants.grants_have_requests.Goals as goal

pub returns : goal.returns
returns c = grants_ask
