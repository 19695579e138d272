use Rattle.ledger_polls.proofs.turning.turn_healthy.Given as goal

abbrev pub ghost-turn : goal.ghost-turn
ghost-turn g a = g.news
