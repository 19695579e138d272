use Rattle.std.proofs.Common.{◌≡◌, drop}
use Rattle.std.specs.Prelude.{find}
use Rattle.ledger_start.specs.Seconds.{is_named}
use Rattle.ledger_start.proofs.seconds.seconds_among.Given as goal

-- the slot that is named first is among those that are left
abbrev pub invariant-loop-number : goal.invariant-loop-number
invariant-loop-number l = find (is_named l.declared l.row) l.numbers ≡ find (is_named l.declared l.row) (drop l.number-index l.numbers)
