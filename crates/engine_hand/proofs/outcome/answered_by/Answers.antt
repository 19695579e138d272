use Rattle.engine_hand.proofs.Rows.{answers_fit}
use Rattle.engine_hand.proofs.outcome.answered_by.Goals as goal

pub returns-in-Ok-copy-clause-cause : goal.returns-in-Ok-copy-clause-cause
returns-in-Ok-copy-clause-cause c = λ faults. (answers_fit c.args.engine.now.engine c.args.request.now c.in-Ok.reply c.serve.new.self.engine c.in-Ok.ensures.answers, tt)
