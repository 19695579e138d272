use Rattle.run_model.proofs.LegalLaws.{claim_allowed}
use Rattle.run_laws.proofs.laws.claims_are_allowed.Goals as goal

pub returns : goal.returns
returns c = claim_allowed
