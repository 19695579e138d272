use Rattle.std.proofs.Common.{◌≡◌, ◌≤◌, length, take}
use Rattle.std.specs.Prelude.{reverse}
use Rattle.run_report.specs.Telling.{latest_deciding}
use Rattle.run_report.proofs.standings.deciding.Given as goal

abbrev pub invariant-loop-at : goal.invariant-loop-at
invariant-loop-at l = record {
  within : l.at ≤ length l.past;
  same : latest_deciding (reverse (take l.at l.past)) l.action ≡ latest_deciding (reverse l.past) l.action;
}

abbrev pub decreases-loop-at : goal.decreases-loop-at
decreases-loop-at l = l.at
