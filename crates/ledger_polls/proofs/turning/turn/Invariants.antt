use Rattle.ledger_polls.proofs.turning.turn.Given as goal

abbrev pub ghost-meet_open : goal.ghost-meet_open
ghost-meet_open g a = g.news

abbrev pub ghost-fail_open : goal.ghost-fail_open
ghost-fail_open g a = g.news

abbrev pub ghost-fail_met : goal.ghost-fail_met
ghost-fail_met g a = g.news
