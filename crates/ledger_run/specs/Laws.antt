-- Laws of what a worker's hand did.
use Rattle.std.specs.Prelude.{◌≡◌, ℕ, List, ◌++◌, drop, length, reverse}
use Rattle.engine_types.specs.declared.Entry.{Entry}
use Rattle.run_model.specs.EngineRules.{exchanges_in}
use Rattle.run_model.specs.Journals.{Setup}
use Rattle.run_model.specs.Logs.{exchanges_of}
use Rattle.ledger_run.specs.Steps.{steps_of}

-- the exchanges among a worker's steps are those that the journal has under its number, and what it did by a journal stays the
-- beginning of what it did by a longer one
pub record StepsAreTheJournals : Type 0 where
  pub exchanges : (setup : Setup) (past : List Entry) (w : ℕ)
      → exchanges_in (steps_of setup past w) ≡ exchanges_of setup past w
  pub joined : (setup : Setup) (old added : List Entry) (w : ℕ)
      → steps_of setup (reverse (old ++ added)) w ≡ steps_of setup (reverse old) w
      ++ drop (length (steps_of setup (reverse old) w)) (steps_of setup (reverse (old ++ added)) w)
