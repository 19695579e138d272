use Rattle.std.proofs.Common.{◌≡◌, ◌≤◌, length, take}
use Rattle.std.specs.Prelude.{reverse}
use Rattle.run_report.specs.Claims.{before_claim}
use Rattle.run_report.proofs.asking.before_claim.Given as goal

abbrev pub invariant-loop-at : goal.invariant-loop-at
invariant-loop-at l = record {
  within : l.at ≤ length l.past;
  same : before_claim (reverse (take l.at l.past)) l.action ≡ before_claim (reverse l.past) l.action;
}

abbrev pub decreases-loop-at : goal.decreases-loop-at
decreases-loop-at l = l.at
