use Rattle.std.proofs.Common.{◌≤◌, ◌-◌, length, take}
use Rattle.outside_files.specs.Sinks.{GrewBy}
use Rattle.outside_files.proofs.writing.write_all.Given as goal

abbrev pub invariant-loop-at : goal.invariant-loop-at
invariant-loop-at g l = record {
  within : l.at ≤ length l.bytes;
  counted : g.S.Sink.faults l.fn.sink ≤ g.S.Sink.faults l.sink;
  grew : GrewBy (g.S.Sink.written l.fn.sink) (take l.at l.bytes) (g.S.Sink.written l.sink);
}

abbrev pub decreases-loop-at : goal.decreases-loop-at
decreases-loop-at g l = length l.bytes - l.at
