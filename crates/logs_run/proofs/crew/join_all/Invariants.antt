-- So many seats were taken in.
use Rattle.std.proofs.Common.{◌≡◌, ◌+◌, ◌≤◌, List, ◌++◌, map}
use mathlib.Core.List.{IsPrefix}
use Rattle.std.specs.Prelude.{vec_capacity, vec_len}
use Rattle.log_book.specs.declared.entries.LogEntry.{LogEntry}
use Rattle.turn_ledger.specs.Own.{Each}
use Rattle.turn_ledger.specs.Seats.{IsOf}
use Rattle.logs_run.specs.Crew.{IsPlain, Seat, calls_of, met_with}
use Rattle.logs_run.proofs.crew.join_all.Given as goal

abbrev pub invariant-loop-crew : goal.invariant-loop-crew
invariant-loop-crew g l = record {
  own : IsOf l.turns l.first;
  plain : Each (λ (s : Seat). IsPlain l.turns s) (map (λ m. m.seat) l.crew.items);
  number : l.first.view.number ≡ l.initial.first.view.number;
  mine : l.first.view.mine ≡ l.initial.first.view.mine;
  left : l.first.view.left ≡ l.initial.first.view.left;
  joined : l.first.view.joined ++ map calls_of (map (λ m. m.seat) l.crew.items)
      ≡ l.initial.first.view.joined ++ map calls_of (map (λ m. m.seat) l.initial.crew.items);
  begins : (h : List LogEntry) → IsPrefix l.first.view.seen h
      → Each (λ (s : Seat). IsPrefix s.view.seen h) (map (λ m. m.seat) l.crew.items)
      → IsPrefix l.initial.first.view.seen h
      × Each (λ (s : Seat). IsPrefix s.view.seen h) (map (λ m. m.seat) l.initial.crew.items);
  given : l.hands.items ++ map (λ m. m.hand) l.crew.items
      ≡ l.initial.hands.items ++ map (λ m. m.hand) l.initial.crew.items;
  met : met_with l.met (map (λ m. m.met) l.crew.items) ≡ met_with l.initial.met (map (λ m. m.met) l.initial.crew.items);
  room : vec_len l.hands + vec_len l.crew ≤ vec_capacity l.hands;
}

abbrev pub decreases-loop-crew : goal.decreases-loop-crew
decreases-loop-crew g l = vec_len l.crew
