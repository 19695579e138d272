-- So many slots were looked at.
use Rattle.std.proofs.Common.{List, []}
use Rattle.engine_types.specs.declared.Declared.{Declared}
use Rattle.engine_types.specs.declared.Listed.{Listed}
use Rattle.outside_api.specs.Standings.{Standing, standing}
use Rattle.wait_run.specs.Ways.{Way}
use Rattle.wait_run.proofs.looking.look_at_all.Given as goal

abbrev pub invariant-loop-s : goal.invariant-loop-s
invariant-loop-s g l =
    (declared : Declared) (rows : List Listed) (from : Standing)
    → Way declared rows [] 0 from
    (standing (g.H.Hand.log l.fn.hand) (g.H.Hand.engine l.fn.hand) (g.H.Hand.heard l.fn.hand) (g.H.Hand.faults l.fn.hand) (g.H.Hand.clock l.fn.hand)) l.fn.goals
    → Way declared rows [] l.s from
    (standing (g.H.Hand.log l.hand) (g.H.Hand.engine l.hand) (g.H.Hand.heard l.hand) (g.H.Hand.faults l.hand) (g.H.Hand.clock l.hand)) l.goals
