-- What a report changes for the rows of actions.
use Rattle.std.specs.Prelude.{◌≡◌, ℕ, ◌<◌, ◌==◌, List, Some, length, slice_get}
use Rattle.engine_types.specs.declared.Condition.{Condition}
use Rattle.engine_types.specs.declared.Entry.{Entry}
use Rattle.run_model.specs.Journals.{Setup}
use Rattle.run_model.specs.Plans.{kind_of, slot_needs}
use Rattle.ledger_rows.specs.Counts.{counted, is_listed}
use Rattle.ledger_rows.specs.Facts.{Facts, asks_of, is_asking, prefers_of}

-- a run's journal, and the facts before and after a condition of a slot changed
pub record Change : Type 0 where
  pub setup : Setup
  pub journal : List Entry
  pub before : Facts
  pub after : Facts
  pub slot : ℕ
  pub condition : Condition

-- the actions that ask for a condition of a slot, each as often as it does
pub record AreAsking (setup : Setup) (s : ℕ) (c : Condition) (asking : List ℕ) : Type 0 where
  pub there : (i a : ℕ) → slice_get asking i ≡ Some a → a < length setup.actions
  pub each : (a : ℕ) → counted (λ b. b == a) asking
      ≡ counted (asks_of s c) (slot_needs setup.declared (kind_of setup.actions a))

-- the actions that ask for a condition of a slot and require it
pub record AreRequiring (setup : Setup) (s : ℕ) (c : Condition) (required : List ℕ) : Type 0 where
  pub there : (i a : ℕ) → slice_get required i ≡ Some a → a < length setup.actions
  pub each : (a : ℕ) → is_listed required a ≡ is_asking setup s c a

-- the actions that ask for a condition of a slot and don't require it, each as often as it does
pub record ArePreferring (setup : Setup) (s : ℕ) (c : Condition)
    (optional : List ℕ) : Type 0 where
  pub there : (i a : ℕ) → slice_get optional i ≡ Some a → a < length setup.actions
  pub each : (a : ℕ) → counted (λ b. b == a) optional
      ≡ counted (prefers_of s c) (slot_needs setup.declared (kind_of setup.actions a))
