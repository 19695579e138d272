use Rattle.ledger_ends.specs.Entries.{ending}
use Rattle.ledger_core.proofs.ledger.Ledger.end_badly.Given as goal

abbrev pub ghost-end_badly : goal.ghost-end_badly
ghost-end_badly a = ending a.so_far a.worker a.outcome.now
