use Rattle.ledger_ends.proofs.well.end_well.Given as goal

abbrev pub ghost-end_well : goal.ghost-end_well
ghost-end_well g a = g.run
