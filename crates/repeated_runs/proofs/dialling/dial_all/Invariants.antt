-- So many hands were dialled.
use Rattle.std.proofs.Common.{◌≡◌, ◌≤◌, None, length}
use Rattle.std.specs.Prelude.{vec_capacity}
use Rattle.compose_cli.specs.Dialling.{Dials}
use Rattle.compose_cli.specs.Ends.{CountsHands}
use Rattle.ledger_run.specs.Tellings.{telling}
use Rattle.repeated_runs.specs.Dials.{IsDialHere}
use Rattle.repeated_runs.specs.Hands.{AreNew}
use Rattle.repeated_runs.proofs.dialling.dial_all.Given as goal

abbrev pub invariant-loop-number : goal.invariant-loop-number
invariant-loop-number g l = record {
  count : length l.hands.items ≡ l.number;
  made : AreNew (λ h. telling (g.P.Hand.Hand.log h) (g.P.Hand.Hand.heard h) (g.P.Hand.Hand.faults h) (g.P.Hand.Hand.clock h) (g.P.Hand.Hand.engine h)) l.hands.items;
  dials : Dials (IsDialHere l.place) l.workers (g.P.Plug.dials l.initial.plug) (g.P.Plug.dials l.plug) (length l.hands.items) None;
  dialled : CountsHands (g.P.Plug.dialled l.initial.plug) (g.P.Plug.dialled l.plug) (length l.hands.items);
  counted : g.P.Plug.faults l.initial.plug ≤ g.P.Plug.faults l.plug;
  room : l.workers ≤ vec_capacity l.hands;
}
