use Rattle.run_laws.proofs.ClaimLaws.{claimed_once}
use Rattle.run_laws.proofs.laws.actions_are_claimed_once.Goals as goal

pub returns : goal.returns
returns c = claimed_once
