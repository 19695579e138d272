use Rattle.std.proofs.Common.{◌≡◌, ◌<◌, ap, ◌∙◌, [], length, arith}
use Rattle.std.proofs.lemmas.Grind.{common_steps}
use Rattle.logs_run.specs.Adding.{SeatView}
use Rattle.logs_run.proofs.Seating.{all_taken, front, met_all, met_taken, takes}
use Rattle.logs_run.proofs.crew.join_all.Goals as goal

pub loop-crew-preserved : goal.loop-crew-preserved
loop-crew-preserved g c =
    let was = c.loop-crew.invariant in let cut = c.remove-seat.ensures in let joined = c.join.ensures in let put = c.push_reserved.ensures in
    let few = c.loop-crew.crew.ok in let cut_len = cut.len in let put_len = put.len in let put_room = put.capacity in let room = was.room in
    let some : 0 < length c.loop-crew.crew.items = omega (arith, few, cut_len) in
    let head = front c.loop-crew.crew.items c.remove-seat.new.self.items c.remove-seat.result some cut.value cut.items in
    let taken = takes (λ m. m.seat) (λ m. m.hand) c.args.turns.now c.loop-crew.crew.items c.remove-seat.new.self.items c.args.crew.items c.remove-seat.result
    c.loop-crew.first.view c.join.new.seat.view c.args.first.now.view c.loop-crew.hands.items c.push_reserved.new.self.items c.args.hands.now.items
    head was.plain was.joined was.begins was.given joined.view joined.begins put.items in
    let left = ap (λ (v : SeatView). v.left) joined.view in let none = taken.none in let stays = was.left in record {
      own = (joined.own ∙ was.own.0, ap (λ (v : SeatView). v.opened) joined.view ∙ was.own.1, ap (λ (v : SeatView). v.seats) joined.view ∙ was.own.2);
      plain = taken.plain;
      number = ap (λ (v : SeatView). v.number) joined.view ∙ was.number;
      mine = ap (λ (v : SeatView). v.mine) joined.view ∙ was.mine;
      left = omega (arith, left, none, stays);
      joined = taken.joined;
      begins = taken.begins;
      given = taken.given;
      met = met_taken (λ m. m.met) c.loop-crew.crew.items c.remove-seat.new.self.items c.remove-seat.result c.loop-crew.met c.add_met.new.met _ head c.add_met.ensures was.met;
      room = omega (arith, put_len, put_room, cut_len, room);
    }

pub returns-clause-begins : goal.returns-clause-begins
returns-clause-begins g c =
    let none : c.loop-crew.crew.items ≡ [] = grind (arith, common_steps) in
    λ h p. all_taken (λ m. m.seat) (λ m. m.hand) c.loop-crew.crew.items c.args.crew.items c.loop-crew.first.view c.args.first.now.view none c.loop-crew.invariant.begins h p

pub returns-clause-met : goal.returns-clause-met
returns-clause-met g c =
    let none : c.loop-crew.crew.items ≡ [] = grind (arith, common_steps) in
    met_all (λ m. m.met) c.loop-crew.crew.items c.loop-crew.met _ none c.loop-crew.invariant.met
