use Rattle.std.specs.Prelude.{◌∷◌, reverse}
use Rattle.engine_types.specs.declared.Entry.{Entry}
use Rattle.ledger_polls.specs.Verdicts.{completed_news, healthy_news}
use Rattle.ledger_polls.proofs.polling.end_poll.Given as goal

abbrev pub ghost-turn_healthy : goal.ghost-turn_healthy
ghost-turn_healthy g a = healthy_news g.run a.slot

abbrev pub ghost-turn_completed : goal.ghost-turn_completed
ghost-turn_completed g a = completed_news g.run a.slot

abbrev pub ghost-retire_fresh : goal.ghost-retire_fresh
ghost-retire_fresh g a = record { setup = g.run.setup; past = Entry.Ended g.run.worker g.run.outcome ∷ reverse g.run.journal }
