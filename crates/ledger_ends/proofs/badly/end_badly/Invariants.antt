use Rattle.std.specs.Prelude.{◌∷◌, reverse}
use Rattle.engine_types.specs.declared.Entry.{Entry}
use Rattle.ledger_ends.proofs.badly.end_badly.Given as goal

abbrev pub ghost-end_badly : goal.ghost-end_badly
ghost-end_badly g a = g.run

abbrev pub ghost-retire_fresh : goal.ghost-retire_fresh
ghost-retire_fresh g a = record { setup = g.run.setup; past = Entry.Ended g.run.worker g.run.outcome ∷ reverse g.run.journal }
