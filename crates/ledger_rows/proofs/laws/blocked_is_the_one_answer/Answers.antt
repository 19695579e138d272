use Rattle.run_model.specs.Conditions.{is_blocked}
use Rattle.ledger_rows.specs.Facts.{facts_of}
use Rattle.ledger_rows.proofs.Fixed.{are_blocked, unique}
use Rattle.ledger_rows.proofs.laws.blocked_is_the_one_answer.Goals as goal

pub returns : goal.returns
returns c = λ setup past orderly. (are_blocked setup orderly past, λ blocked are a. unique setup orderly (facts_of setup past) blocked (is_blocked setup past) are (are_blocked setup orderly past) a)
