use Rattle.turn_ledger.proofs.Seating.{starts}
use Rattle.turn_ledger.proofs.turns.Turns.new.Goals as goal

pub new-requires : goal.new-requires
new-requires g c =
    let items = c.push_reserved.ensures.items in
    let old = c.reserve.ensures.items in
    rw (items, old, c.new-slots.ensures.items) (starts g.Q.Serial.journal g.Q.Serial.origin g.Q.Serial.by g.Q.Serial.most _ c.args.object c.of.ensures c.requires.0 c.requires.1)
