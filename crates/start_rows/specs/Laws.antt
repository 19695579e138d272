-- Laws of the rows that a ledger begins with.
use Rattle.std.specs.Prelude.{◌≡◌, ℕ, ◌<◌, List, [], ◌∷◌, Option, Some, None, get_or, length, replicate}
use Rattle.engine_types.specs.declared.Action.{Action}
use Rattle.engine_types.specs.declared.ActionKind.{ActionKind}
use Rattle.engine_types.specs.declared.Condition.{Condition}
use Rattle.engine_types.specs.declared.Declared.{Declared}
use Rattle.engine_types.specs.declared.Entry.{Entry}
use Rattle.engine_types.specs.declared.Observed.{Observed}
use Rattle.run_model.specs.Journals.{Setup}
use Rattle.run_model.specs.Plans.{Basis, HasPlan, IsOrderly, IsWhole, kind_of, start_of}
use Rattle.plan_rows.specs.Firsts.{first_of}
use Rattle.plan_rows.specs.declared.row.Row.{Row}
use Rattle.plan_needs.specs.Laws.{AreStarts}
use Rattle.ledger_rows.specs.ActionRows.Values.{Actions}
use Rattle.ledger_rows.specs.Entries.{RowsSay}
use Rattle.ledger_rows.specs.Reports.{AreAsking, ArePreferring, AreRequiring}
use Rattle.ledger_rows.specs.declared.action_rows.State.{State}
use Rattle.slot_rows.specs.Keys.{no_slot}
use Rattle.slot_rows.specs.Slots.{AreSlots}
use Rattle.slot_rows.specs.declared.slot_row.SlotRow.{SlotRow}
use Rattle.start_rows.specs.Asks.{AreAskingRows}
use Rattle.start_rows.specs.Firsts.{first_lack, first_slot}
use Rattle.start_rows.specs.declared.ask.Ask.{Ask}

-- where what is declared is whole, the row of a slot in such rows has the starts that ask for it, those that require it, and
-- those that don't; that of what is no slot has none
pub record RowsAreAsking : Type 0 where
  pub asking : (setup : Setup) (c : Condition) (rows : List (List ℕ)) (s : ℕ)
      → IsWhole setup.declared → length rows ≡ length setup.declared.slots
      → AreAskingRows Ask.Any c setup rows → AreAsking setup s c (get_or rows s [])
  pub requiring : (setup : Setup) (c : Condition) (rows : List (List ℕ)) (s : ℕ)
      → IsWhole setup.declared → length rows ≡ length setup.declared.slots
      → AreAskingRows Ask.Required c setup rows → AreRequiring setup s c (get_or rows s [])
  pub preferring : (setup : Setup) (c : Condition) (rows : List (List ℕ)) (s : ℕ)
      → IsWhole setup.declared → length rows ≡ length setup.declared.slots
      → AreAskingRows Ask.Optional c setup rows → ArePreferring setup s c (get_or rows s [])

-- the rows of actions that are all free, each kept by so many needs
abbrev pub free_rows : List ℕ → Actions
free_rows lacks = record { states = replicate (length lacks) State.Free; lacks = lacks }

-- the first rows of actions and of slots say what a journal says that has only its observation
pub record FirstRowsSay : Type 0 where
  pub actions : (setup : Setup) (observed : Observed) (starts : List (Option ℕ))
      (lacks : List ℕ) → AreStarts setup starts → length lacks ≡ length setup.actions
      → ((a : ℕ) → a < length setup.actions
      → get_or lacks a 0 ≡ first_lack setup.declared setup.actions starts a)
      → RowsSay setup (Entry.Seen observed ∷ []) (free_rows lacks)
  pub slots : (setup : Setup) (observed : Observed) (starts : List (Option ℕ))
      (healthy completed : List (List ℕ)) (rows : List SlotRow)
      → IsOrderly setup.declared setup.actions → AreStarts setup starts
      → AreAskingRows Ask.Any Condition.Healthy setup healthy
      → AreAskingRows Ask.Any Condition.Completed setup completed
      → length rows ≡ length setup.declared.slots
      → ((s : ℕ) → s < length setup.declared.slots → get_or rows s no_slot
      ≡ first_slot setup.declared setup.limits.wait starts healthy completed s)
      → AreSlots setup (Entry.Seen observed ∷ []) rows

-- how many places a row of first actions has: that of the slots, or that of the networks
abbrev pub place_count : Row → Declared → ℕ
place_count Row.Starts declared = length declared.slots
place_count Row.Creates declared = length declared.slots
place_count Row.Makes declared = length declared.networks

-- in a plan, an action that starts a slot starts one that is there, and no other action starts it; and a row of first actions
-- that is right for what is there is right for every number
pub record FirstsOfPlans : Type 0 where
  pub there : (basis : Basis) (actions : List Action) (a s : ℕ) → HasPlan basis actions
      → kind_of actions a ≡ Some (ActionKind.StartSlot s) → s < length basis.declared.slots
  pub first : (basis : Basis) (actions : List Action) (a s : ℕ) → HasPlan basis actions
      → kind_of actions a ≡ Some (ActionKind.StartSlot s) → start_of actions s ≡ Some a
  pub all : (basis : Basis) (actions : List Action) (row : Row) (rows : List (Option ℕ))
      → HasPlan basis actions → length rows ≡ place_count row basis.declared
      → ((s : ℕ) → s < place_count row basis.declared
      → get_or rows s None ≡ first_of row actions s)
      → (s : ℕ) → get_or rows s None ≡ first_of row actions s
