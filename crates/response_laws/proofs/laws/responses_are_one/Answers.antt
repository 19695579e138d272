use Rattle.response_laws.proofs.Excluding.{responses_are_one}
use Rattle.response_laws.proofs.laws.responses_are_one.Goals as goal

pub returns : goal.returns
returns c = responses_are_one
