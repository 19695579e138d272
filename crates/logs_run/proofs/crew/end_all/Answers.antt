use Rattle.std.proofs.Common.{◌≡◌, ◌<◌, length, arith}
use Rattle.logs_run.proofs.Seating.{covers_all, ended_all, front, lined_plain, met_first, others_lined}
use Rattle.logs_run.proofs.crew.end_all.Goals as goal

pub join_all-requires-clause-plain : goal.join_all-requires-clause-plain
join_all-requires-clause-plain g c =
    let cut = c.remove-seat.ensures in let few = c.args.crew.ok in let cut_len = cut.len in
    let some : 0 < length c.args.crew.items = omega (arith, few, cut_len) in
    let head = front c.args.crew.items c.remove-seat.new.self.items c.remove-seat.result some cut.value cut.items in
    lined_plain c.args.turns 1 _ (others_lined (λ m. m.seat) (λ m. m.hand) c.args.turns c.args.crew.items c.remove-seat.new.self.items c.remove-seat.result head c.requires.seats).2

pub close-requires-clause-all : goal.close-requires-clause-all
close-requires-clause-all g c =
    let cut = c.remove-seat.ensures in let few = c.args.crew.ok in let cut_len = cut.len in let all = c.requires.all in
    let some : 0 < length c.args.crew.items = omega (arith, few, cut_len) in
    let head = front c.args.crew.items c.remove-seat.new.self.items c.remove-seat.result some cut.value cut.items in
    let many : c.args.turns.seats ≡ length c.args.crew.items = omega (arith, all, few) in
    covers_all (λ m. m.seat) (λ m. m.hand) c.args.turns c.args.crew.items c.remove-seat.new.self.items c.remove-seat.result c.join_all.new.first.view head c.requires.seats many
    c.join_all.ensures.first.0 c.join_all.ensures.joined c.join_all.ensures.own.2

pub returns-clause-ended : goal.returns-clause-ended
returns-clause-ended g c =
    let cut = c.remove-seat.ensures in let few = c.args.crew.ok in let cut_len = cut.len in
    let some : 0 < length c.args.crew.items = omega (arith, few, cut_len) in
    let head = front c.args.crew.items c.remove-seat.new.self.items c.remove-seat.result some cut.value cut.items in
    ended_all (λ m. m.seat) (λ m. m.hand) c.args.turns c.args.crew.items c.remove-seat.new.self.items c.remove-seat.result c.join_all.new.first.view c.close.result head c.requires.seats
    c.join_all.ensures.first.0 c.join_all.ensures.first.1 c.join_all.ensures.joined c.join_all.ensures.begins c.close.ensures.stands c.close.ensures.mine c.close.ensures.joined

pub returns-clause-met : goal.returns-clause-met
returns-clause-met g c =
    let cut = c.remove-seat.ensures in let few = c.args.crew.ok in let cut_len = cut.len in
    let some : 0 < length c.args.crew.items = omega (arith, few, cut_len) in
    let head = front c.args.crew.items c.remove-seat.new.self.items c.remove-seat.result some cut.value cut.items in
    met_first (λ m. m.met) c.args.crew.items c.remove-seat.new.self.items c.remove-seat.result c.join_all.new.met head c.join_all.ensures.met
