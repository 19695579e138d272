use Rattle.std.proofs.Common.{None, ap}
use Rattle.http_hand.specs.HttpHands.{at_place}
use Rattle.http_hand.proofs.http_hand.HttpHand.new.Goals as goal

pub returns-clause-unread : goal.returns-clause-unread
returns-clause-unread g c = λ e. ap (at_place None) e
