use Rattle.std.proofs.Common.{◌≡◌, ◌+◌, ◌<◌, ◌∷◌, ap, ◌∙◌, length, subst, sym, arith}
use Rattle.logs_run.specs.Adding.{SeatView}
use Rattle.logs_run.specs.Crew.{IsPlain, Seat}
use Rattle.logs_run.proofs.Seating.{calm_more, front, sits}
use Rattle.logs_run.proofs.crew.seat_others.Goals as goal

pub loop-hands-preserved : goal.loop-hands-preserved
loop-hands-preserved g c =
    let was = c.loop-hands.invariant in let cut = c.remove-hand.ensures in let split = c.split-seat.ensures in let put = c.push_reserved.ensures in
    let few = c.loop-hands.hands.ok in let long = c.loop-hands.crew.ok in let seats = was.own.2 in
    let cut_len = cut.len in let put_len = put.len in let put_room = put.capacity in let left = was.left in let count = was.count in let room = was.room in
    let some : 0 < length c.loop-hands.hands.items = omega (arith, few, cut_len) in
    let given = ap (λ (v : SeatView). v.number) split.new in
    let number : c.split-seat.result.view.number ≡ 1 + length c.loop-hands.crew.items = omega (arith, given, seats, left, count, long) in
    let spared = ap (λ (v : SeatView). v.left) split.old in
    let hand_is = c.fetcher.ensures.hand in let seat_is = c.fetcher.ensures.seat in
    let sat = sits (λ m. m.seat) (λ m. m.hand) c.args.turns.now c.loop-hands.crew.items c.push_reserved.new.self.items c.fetcher.result c.loop-hands.hands.items c.remove-hand.new.self.items c.args.hands.now.items put.items
    (front c.loop-hands.hands.items c.remove-hand.new.self.items c.remove-hand.result some cut.value cut.items ∙ ap (λ h. h ∷ c.remove-hand.new.self.items) (sym hand_is)) was.given was.seats was.fresh
    (subst (λ (s : Seat). IsPlain c.args.turns.now s) (sym seat_is) (record {
      of = (split.own.1 ∙ was.own.0, ap (λ (v : SeatView). v.opened) split.new ∙ was.own.1, ap (λ (v : SeatView). v.seats) split.new ∙ was.own.2);
      joined = ap (λ (v : SeatView). v.joined) split.new;
      left = ap (λ (v : SeatView). v.left) split.new;
    })) (ap (λ (s : Seat). s.view.number) seat_is ∙ number) (ap (λ (s : Seat). s.view.mine) seat_is ∙ ap (λ (v : SeatView). v.mine) split.new) in record {
      own = (split.own.0 ∙ was.own.0, ap (λ (v : SeatView). v.opened) split.old ∙ was.own.1, ap (λ (v : SeatView). v.seats) split.old ∙ was.own.2);
      number = ap (λ (v : SeatView). v.number) split.old ∙ was.number;
      mine = ap (λ (v : SeatView). v.mine) split.old ∙ was.mine;
      joined = ap (λ (v : SeatView). v.joined) split.old ∙ was.joined;
      left = omega (arith, spared, left, cut_len);
      count = omega (arith, put_len, cut_len, count);
      given = sat.given;
      seats = sat.seats;
      fresh = sat.fresh;
      calm = calm_more (λ m. m.met) c.loop-hands.crew.items c.push_reserved.new.self.items c.fetcher.result put.items was.calm c.fetcher.ensures.met;
      room = omega (arith, put_len, put_room, cut_len, room);
      kept = cut.capacity ∙ was.kept;
    }
