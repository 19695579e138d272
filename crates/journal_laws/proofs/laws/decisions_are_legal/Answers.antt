use Rattle.journal_laws.proofs.Following.{answers, shorts}
use Rattle.journal_laws.proofs.laws.decisions_are_legal.Goals as goal

pub returns : goal.returns
returns c = record { answers = answers; shorts = shorts }
