use Rattle.std.proofs.Common.{◌≡◌, ◌+◌, false, drop}
use Rattle.yaml_flow.specs.Gaps.{past_gap}
use Rattle.yaml_flow.proofs.gap.next_place.Given as goal

abbrev pub invariant-loop-n : goal.invariant-loop-n
invariant-loop-n l = past_gap l.progress l.row (l.at + l.n) l.comment l.behind_white (drop l.n l.chars) ≡ past_gap l.progress l.row l.at false l.white l.chars
