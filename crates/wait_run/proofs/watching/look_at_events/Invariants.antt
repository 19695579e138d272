-- Some events more were taken, and looks made behind them; each event that waited is taken once.
use Rattle.std.proofs.Common.{ℕ, List, length}
use Rattle.engine_types.specs.declared.Declared.{Declared}
use Rattle.engine_types.specs.declared.Listed.{Listed}
use Rattle.event_watch.specs.Reading.{waiting}
use Rattle.event_watch.specs.declared.Event.{Event}
use Rattle.outside_api.specs.Standings.{Standing, standing}
use Rattle.wait_run.specs.Watching.{LooksAfter}
use Rattle.wait_run.proofs.watching.look_at_events.Given as goal

abbrev pub invariant-events : goal.invariant-events
invariant-events g l =
    (declared : Declared) (rows : List Listed) (body : List ℕ) (taken : List Event) (from : Standing)
    → LooksAfter declared rows body taken from
    (standing (g.H.Hand.log l.fn.hand) (g.H.Hand.engine l.fn.hand) (g.H.Hand.heard l.fn.hand) (g.H.Hand.faults l.fn.hand) (g.H.Hand.clock l.fn.hand)) l.fn.reader l.fn.goals
    → (now : List Event) × LooksAfter declared rows body now from
    (standing (g.H.Hand.log l.hand) (g.H.Hand.engine l.hand) (g.H.Hand.heard l.hand) (g.H.Hand.faults l.hand) (g.H.Hand.clock l.hand)) l.reader l.goals

abbrev pub decreases-events : goal.decreases-events
decreases-events g l = length (waiting l.reader)
