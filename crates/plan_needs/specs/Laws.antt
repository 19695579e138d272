-- What actions wait for, in the words of rows.
use Rattle.std.specs.Prelude.{◌≡◌, ℕ, ◌==◌, List, [], Option, None, get_or, length, nat_lt}
use Rattle.run_model.specs.Journals.{Setup}
use Rattle.run_model.specs.Plans.{start_of}
use Rattle.ledger_rows.specs.Counts.{counted}
use Rattle.ledger_rows.specs.Entries.{AreReleased}
use Rattle.ledger_rows.specs.Facts.{frees, released_by, stops}
use Rattle.ledger_rows.specs.Rows.{IsNet}
use Rattle.plan_needs.specs.Waits.{waited}
use Rattle.plan_needs.specs.declared.wait.Wait.{Wait}

-- the starts of all slots, and none of what is no slot
abbrev pub AreStarts : Setup → List (Option ℕ) → Type 0
AreStarts setup starts = (s : ℕ) → get_or starts s None ≡ start_of setup.actions s

-- an action waits for another one exactly where its loss blocks it, and as often as its loss, or its good end, lets it go
pub record WaitsAreDefined : Type 0 where
  pub required : (setup : Setup) (starts : List (Option ℕ)) (a x : ℕ) → AreStarts setup starts
      → nat_lt 0 (waited Wait.Required setup.declared setup.actions starts a x)
      ≡ stops setup x a
  pub optional : (setup : Setup) (starts : List (Option ℕ)) (a x : ℕ) → AreStarts setup starts
      → waited Wait.Optional setup.declared setup.actions starts a x ≡ frees setup x a
  pub started : (setup : Setup) (starts : List (Option ℕ)) (a x : ℕ) → AreStarts setup starts
      → waited Wait.Started setup.declared setup.actions starts a x ≡ released_by setup x a

-- rows in which each action stands under those that it waits for so, as often as it does
abbrev pub AreTurned : Wait → Setup → List (Option ℕ) → List (List ℕ) → Type 0
AreTurned wait setup starts rows = (x a : ℕ)
    → counted (λ b. b == a) (get_or rows x [])
    ≡ waited wait setup.declared setup.actions starts a x

-- such rows are the rows of dependents that a ledger's losses and good ends go by
pub record TurnedAreDependents : Type 0 where
  pub net : (setup : Setup) (starts : List (Option ℕ)) (stopped freed : List (List ℕ))
      → AreStarts setup starts → length stopped ≡ length setup.actions
      → length freed ≡ length setup.actions
      → AreTurned Wait.Required setup starts stopped
      → AreTurned Wait.Optional setup starts freed → IsNet setup stopped freed
  pub released : (setup : Setup) (starts : List (Option ℕ)) (rows : List (List ℕ)) (x : ℕ)
      → AreStarts setup starts → AreTurned Wait.Started setup starts rows
      → AreReleased setup x (get_or rows x [])
