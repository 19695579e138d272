-- What the rows that a plan fixes say.
use Rattle.std.specs.Prelude.{◌≡◌, ℕ, List, [], get_or, length}
use Rattle.engine_types.specs.declared.Condition.{Condition}
use Rattle.run_model.specs.Journals.{Setup}
use Rattle.ledger_rows.specs.Entries.{AreReleased}
use Rattle.ledger_rows.specs.Reports.{AreAsking, ArePreferring, AreRequiring}
use Rattle.ledger_rows.specs.Rows.{IsNet}
use Rattle.ledger_ends.specs.declared.dependents.Asking.{Asking}
use Rattle.ledger_ends.specs.declared.dependents.Dependents.{Dependents}

-- for each slot those that ask for this condition, those that require it, and those that don't
pub record AreAsked (setup : Setup) (c : Condition) (rows : Asking) : Type 0 where
  pub asking_size : length rows.asking ≡ length setup.declared.slots
  pub required_size : length rows.required ≡ length setup.declared.slots
  pub optional_size : length rows.optional ≡ length setup.declared.slots
  pub asking : (s : ℕ) → AreAsking setup s c (get_or rows.asking s [])
  pub required : (s : ℕ) → AreRequiring setup s c (get_or rows.required s [])
  pub optional : (s : ℕ) → ArePreferring setup s c (get_or rows.optional s [])

-- the rows that a plan fixes: whom each action's good end lets go, whom its loss blocks and lets go, and who asks for a report
pub record AreDependents (setup : Setup) (rows : Dependents) : Type 0 where
  pub released_size : length rows.released ≡ length setup.actions
  pub released : (a : ℕ) → AreReleased setup a (get_or rows.released a [])
  pub net : IsNet setup rows.stopped rows.freed
  pub healthy : AreAsked setup Condition.Healthy rows.healthy
  pub completed : AreAsked setup Condition.Completed rows.completed
