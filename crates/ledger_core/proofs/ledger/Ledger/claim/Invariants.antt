use Rattle.ledger_ends.specs.Entries.{claiming}
use Rattle.ledger_core.proofs.ledger.Ledger.claim.Given as goal

abbrev pub ghost-claim : goal.ghost-claim
ghost-claim a = claiming a.so_far a.worker
