use Rattle.std.proofs.Common.{take}
use Rattle.ledger_ends.specs.Retiring.{Retires}
use Rattle.ledger_ends.proofs.retiring.retire.Given as goal

abbrev pub invariant-loop-need : goal.invariant-loop-need
invariant-loop-need l = Retires (take l.need-index l.needs) l.initial.slots l.slots
