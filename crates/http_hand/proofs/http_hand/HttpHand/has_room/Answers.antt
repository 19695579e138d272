-- There are no more connections than exchanges.
use Rattle.std.proofs.Common.{arith}
use Rattle.http_hand.proofs.Hearing.{few_connections}
use Rattle.http_hand.proofs.http_hand.HttpHand.has_room.Goals as goal

pub returns-then-is_ok-clause-few : goal.returns-then-is_ok-clause-few
returns-then-is_ok-clause-few g c = λ _. few_connections c.reserve-then-is_ok.new.self.items c.args.self.now.opened.items 4611686018427387904 c.reserve-then-is_ok.ensures.items
    (omega (arith, c.len.ensures, c.if-len-ge-MOST_EXCHANGES.false))
