-- So many rounds found nothing, and the clock counted no more than they do.
use Rattle.std.proofs.Common.{◌-◌, ◌*◌, ◌≤◌}
use Rattle.name_conflicts.specs.Looks.{GoesOn, before_look, most_looks}
use Rattle.name_conflicts.proofs.looking.look_for.Given as goal

abbrev pub invariant-looking : goal.invariant-looking
invariant-looking g l = record {
  goes : GoesOn l.project l.request l.deadline l.rounds (g.H.Hand.log l.fn.hand) (g.H.Hand.log l.hand) (g.H.Hand.clock l.fn.hand) (g.H.Hand.clock l.hand);
  few : l.rounds ≤ most_looks;
  paused : (g.H.Hand.clock l.hand).paused ≤ before_look * l.rounds;
  looks : (g.H.Hand.clock l.hand).looks ≤ l.rounds;
  readings : (g.H.Hand.clock l.hand).readings ≤ l.rounds;
}

abbrev pub decreases-looking : goal.decreases-looking
decreases-looking g l = most_looks - l.rounds
