use Rattle.ledger_ends.proofs.claiming.claim.Given as goal

abbrev pub ghost-claim : goal.ghost-claim
ghost-claim g a = record { setup = g.run.setup; journal = g.run.journal }
