use Rattle.std.proofs.Common.{◌≡◌, None, drop, map}
use Rattle.engine_json.specs.Told.{failure_behind}
use Rattle.engine_json.proofs.pulls.told_by.Given as goal

abbrev pub invariant-loop-line : goal.invariant-loop-line
invariant-loop-line l =
    failure_behind l.failed (map (λ line. line.now) (drop l.line-index l.lines)) ≡ failure_behind None (map (λ line. line.now) l.lines)
