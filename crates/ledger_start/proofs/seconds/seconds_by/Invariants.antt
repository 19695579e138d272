use Rattle.std.proofs.Common.{◌≡◌, map, take}
use Rattle.ledger_start.specs.Seconds.{seconds_for}
use Rattle.ledger_start.proofs.seconds.seconds_by.Given as goal

abbrev pub invariant-loop-row : goal.invariant-loop-row
invariant-loop-row l = l.all ≡ map (seconds_for l.declared l.limits) (take l.row-index l.rows)
