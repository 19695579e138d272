-- So many pieces were read, and looks made behind their events.
use Rattle.std.proofs.Common.{ℕ, ◌≤◌, List, [], Option, length}
use Rattle.engine_types.specs.declared.Declared.{Declared}
use Rattle.engine_types.specs.declared.Listed.{Listed}
use Rattle.event_watch.specs.Reading.{HasRead}
use Rattle.outside_api.specs.Pipes.{Talk}
use Rattle.outside_api.specs.Standings.{Standing, standing}
use Rattle.wait_run.specs.Streams.{ReadsTo}
use Rattle.wait_run.specs.Ways.{Way}
use Rattle.wait_run.proofs.Streaming.{Watched}
use Rattle.wait_run.proofs.watching.watch_with.Given as goal

abbrev pub invariant-reading : goal.invariant-reading
invariant-reading g l = record {
  counted : g.P.Pipe.faults l.fn.stream ≤ g.P.Pipe.faults l.stream;
  watched : (declared : Declared) (rows : List Listed) (from : Standing) (talk : Option Talk) (faults : ℕ)
      → Way declared rows [] (length declared.slots) from
      (standing (g.H.Hand.log l.fn.hand) (g.H.Hand.engine l.fn.hand) (g.H.Hand.heard l.fn.hand) (g.H.Hand.faults l.fn.hand) (g.H.Hand.clock l.fn.hand)) l.fn.goals
      → ReadsTo l.fn.body [] talk (g.P.Pipe.talk l.fn.stream) → faults ≤ g.P.Pipe.faults l.fn.stream → HasRead l.fn.reader [] []
      → Watched declared rows from
      (standing (g.H.Hand.log l.hand) (g.H.Hand.engine l.hand) (g.H.Hand.heard l.hand) (g.H.Hand.faults l.hand) (g.H.Hand.clock l.hand))
      talk (g.P.Pipe.talk l.stream) l.body l.reader l.goals l._pieces;
}
