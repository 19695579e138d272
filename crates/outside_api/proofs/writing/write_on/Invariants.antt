-- So far the first bytes were taken.
use Rattle.std.proofs.Common.{◌≤◌, ◌-◌, length, take}
use Rattle.outside_api.specs.Pipes.{ToldBy, after_write}
use Rattle.outside_api.proofs.writing.write_on.Given as goal

abbrev pub invariant-loop-at : goal.invariant-loop-at
invariant-loop-at g l = record {
  within : l.at ≤ length l.bytes;
  counted : g.P.Pipe.faults l.fn.pipe ≤ g.P.Pipe.faults l.pipe;
  told : ToldBy (after_write (take l.at l.bytes)) (g.P.Pipe.talk l.fn.pipe) (g.P.Pipe.talk l.pipe);
}

abbrev pub decreases-loop-at : goal.decreases-loop-at
decreases-loop-at g l = length l.bytes - l.at
