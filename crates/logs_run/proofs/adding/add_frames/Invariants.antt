-- The first parts were added, and these frames are left.
use Rattle.std.proofs.Common.{length}
use Rattle.log_frames.specs.Frames.{LieIn}
use Rattle.logs_run.specs.Adding.{IsFetcher}
use Rattle.logs_run.proofs.PartEntries.{Underway}
use Rattle.logs_run.proofs.adding.add_frames.Given as goal

abbrev pub invariant-loop-left : goal.invariant-loop-left
invariant-loop-left g l = record {
  fetcher : IsFetcher l.turns l.seat;
  within : LieIn l.bytes l.left;
  underway : Underway l.bytes l.frames l.slot l.size l.initial.seat.view l.seat.view l.cutter l.left;
}

abbrev pub decreases-loop-left : goal.decreases-loop-left
decreases-loop-left g l = length l.left
