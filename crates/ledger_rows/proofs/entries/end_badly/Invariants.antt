use Rattle.std.specs.Prelude.{◌++◌, ◌∷◌, [], reverse}
use Rattle.engine_types.specs.declared.Entry.{Entry}
use Rattle.ledger_rows.specs.Facts.{facts_of}
use Rattle.ledger_rows.proofs.entries.end_badly.Given as goal

abbrev pub ghost-lose : goal.ghost-lose
ghost-lose g a = record {
  setup = g.run.setup;
  facts = facts_of g.run.setup (Entry.Ended g.run.worker g.run.outcome ∷ reverse g.run.journal);
  journal = g.run.journal ++ Entry.Ended g.run.worker g.run.outcome ∷ [];
}
