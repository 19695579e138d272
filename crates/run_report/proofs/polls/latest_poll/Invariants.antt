use Rattle.std.proofs.Common.{◌≡◌, ◌≤◌, length, take}
use Rattle.std.specs.Prelude.{reverse}
use Rattle.run_report.specs.Claims.{before_poll}
use Rattle.run_report.proofs.polls.latest_poll.Given as goal

abbrev pub invariant-loop-at : goal.invariant-loop-at
invariant-loop-at l = record {
  within : l.at ≤ length l.past;
  same : before_poll (reverse (take l.at l.past)) l.worker ≡ before_poll (reverse l.past) l.worker;
}

abbrev pub decreases-loop-at : goal.decreases-loop-at
decreases-loop-at l = l.at
