use Rattle.ledger_polls.proofs.turning.fail_met.Given as goal

abbrev pub ghost-unmeet_met : goal.ghost-unmeet_met
ghost-unmeet_met g a = g.news

abbrev pub ghost-fail_open : goal.ghost-fail_open
ghost-fail_open g a = g.news
