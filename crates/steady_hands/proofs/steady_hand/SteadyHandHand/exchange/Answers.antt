use Rattle.steady_hands.proofs.Staying.{stays}
use Rattle.steady_hands.proofs.steady_hand.SteadyHandHand.exchange.Goals as goal

pub invariant_of-self : goal.invariant_of-self
invariant_of-self g c = record {
  answered = stays c.args.self.now.hand.log.items c.exchange.new.self.log.items c.args.request c.exchange.result c.exchange.ensures.log c.exchange.ensures.outcome c.args.self.now.answered;
}
