use Rattle.run_model.proofs.LegalLaws.{ask_answered}
use Rattle.run_laws.proofs.laws.asks_are_answered.Goals as goal

pub returns : goal.returns
returns c = ask_answered
