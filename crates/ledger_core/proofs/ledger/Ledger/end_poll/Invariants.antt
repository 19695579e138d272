use Rattle.ledger_ends.specs.Entries.{ending}
use Rattle.ledger_core.proofs.ledger.Ledger.end_poll.Given as goal

abbrev pub ghost-end_poll : goal.ghost-end_poll
ghost-end_poll a = ending a.so_far a.worker a.outcome.now
