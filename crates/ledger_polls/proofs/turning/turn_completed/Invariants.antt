use Rattle.ledger_polls.proofs.turning.turn_completed.Given as goal

abbrev pub ghost-turn : goal.ghost-turn
ghost-turn g a = g.news
