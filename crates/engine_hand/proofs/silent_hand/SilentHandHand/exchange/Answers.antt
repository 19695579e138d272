use Rattle.engine_hand.proofs.Silences.{silent_caused}
use Rattle.engine_hand.proofs.silent_hand.SilentHandHand.exchange.Goals as goal

pub returns-clause-cause : goal.returns-clause-cause
returns-clause-cause c = silent_caused c.args.request c.reserve-2.new.self.items c.push-2.new.self.items (rw c.unwrap-2.ensures at c.push-2.ensures.ok)
