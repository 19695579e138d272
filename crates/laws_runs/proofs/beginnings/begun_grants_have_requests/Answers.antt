use Rattle.laws_runs.proofs.Begun.{have_requests}
use Rattle.laws_runs.proofs.beginnings.begun_grants_have_requests.Goals as goal

pub returns : goal.returns
returns c = have_requests
