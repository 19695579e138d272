use Rattle.std.specs.Prelude.{length}
use Rattle.engine_hand.specs.ScriptHands.{faults_of, log_of, script_of}
use Rattle.engine_hand.proofs.Scripts.{outcome_caused}
use Rattle.engine_hand.proofs.script_hand.ScriptHandHand.exchange.Goals as goal

pub returns-clause-cause : goal.returns-clause-cause
returns-clause-cause c =
    outcome_caused c.args.request (script_of c.args.self.now) (length (log_of c.args.self.now)) (faults_of c.args.self.now) c.faults_with-self.result
    c.in-Ok-Ok.outcome c.in-Ok-Ok.ensures c.faults_with-self.ensures
