use Rattle.std.proofs.Common.{ap}
use Rattle.http_hand.specs.HttpHands.{at_place}
use Rattle.http_hand.proofs.http_hand.HttpHandHand.asked.Goals as goal

pub returns-clause-clock : goal.returns-clause-clock
returns-clause-clock g c = ap (at_place c.args.self.now.place) c.asked.ensures.clock
