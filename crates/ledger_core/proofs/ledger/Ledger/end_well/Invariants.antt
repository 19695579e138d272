use Rattle.ledger_ends.specs.Entries.{good_ending}
use Rattle.ledger_core.proofs.ledger.Ledger.end_well.Given as goal

abbrev pub ghost-end_well : goal.ghost-end_well
ghost-end_well a = good_ending a.so_far a.worker a.outcome.now
