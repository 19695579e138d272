-- So many hands have their seats.
use Rattle.std.proofs.Common.{◌≡◌, ◌+◌, ◌<◌, ◌++◌, map}
use Rattle.std.specs.Prelude.{vec_capacity, vec_len}
use Rattle.turn_ledger.specs.Seats.{IsOf}
use Rattle.logs_run.specs.Crew.{AreCalm, AreFresh, AreLined}
use Rattle.logs_run.proofs.crew.seat_others.Given as goal

abbrev pub invariant-loop-hands : goal.invariant-loop-hands
invariant-loop-hands g l = record {
  own : IsOf l.turns l.first;
  number : l.first.view.number ≡ l.initial.first.view.number;
  mine : l.first.view.mine ≡ l.initial.first.view.mine;
  joined : l.first.view.joined ≡ l.initial.first.view.joined;
  left : l.first.view.left ≡ vec_len l.hands;
  count : vec_len l.crew + vec_len l.hands + 1 ≡ l.turns.seats;
  given : map (λ m. m.hand) l.crew.items ++ l.hands.items ≡ l.initial.hands.items;
  seats : AreLined l.turns 1 (map (λ m. m.seat) l.crew.items);
  fresh : AreFresh (map (λ m. m.seat) l.crew.items);
  calm : AreCalm (map (λ m. m.met) l.crew.items);
  room : vec_len l.crew + vec_len l.hands < vec_capacity l.crew;
  kept : vec_capacity l.hands ≡ vec_capacity l.initial.hands;
}

abbrev pub decreases-loop-hands : goal.decreases-loop-hands
decreases-loop-hands g l = vec_len l.hands
