-- What holds of every ledger.
use Rattle.std.specs.Prelude.{◌≡◌, ℕ, ◌+◌, ◌<◌, ◌≤◌, Bool, true, if◌then◌else◌, List, [], ◌∷◌, Option, None, Some, get_or, is_some, length, reverse, set, slice_get}
use Rattle.engine_types.specs.declared.Aim.{Aim}
use Rattle.tree_base.specs.Limits.{count_bound, most_workers}
use Rattle.tree_base.specs.Reserved.{Reserved}
use Rattle.engine_types.specs.declared.ActionKind.{ActionKind}
use Rattle.engine_types.specs.declared.Entry.{Entry}
use Rattle.engine_types.specs.declared.Listed.{Listed}
use Rattle.run_model.specs.Journals.{Setup, is_ending, seen_in}
use Rattle.run_model.specs.Legal.{Decision, Full, Go, IsLegal, Look, Pause, Take}
use Rattle.run_model.specs.Plans.{AreKeptPlaces, IsOrderly, IsWhole, create_of, kind_of, make_of, needs_of, slot_needs, start_of}
use Rattle.run_model.specs.Requests.{stop_seconds}
use Rattle.ledger_rows.specs.ActionRows.Values.{Actions}
use Rattle.ledger_rows.specs.Entries.{RowsSay}
use Rattle.ledger_rows.specs.Workers.{IsWorkerRow, no_worker}
use Rattle.ledger_rows.specs.declared.worker_row.WorkerRow.{WorkerRow}
use Rattle.slot_rows.specs.Keys.{no_slot}
use Rattle.slot_rows.specs.Slots.{AreSlots}
use Rattle.slot_rows.specs.declared.slot_row.SlotRow.{SlotRow}
use Rattle.ledger_ends.specs.Dependents.{AreDependents}
use Rattle.ledger_ends.specs.declared.dependents.Dependents.{Dependents}
use Rattle.ledger_core.specs.declared.places.Places.{Places}
use Rattle.ledger_core.specs.declared.step.Step.{Step}

-- how many entries of a worker may still come without memory: the end of its permit, a stop or late, and its last entry
abbrev pub worker_room : WorkerRow → ℕ
worker_room row =
    (if row.out then 1 else 0) + (if row.stopped then 0 else 1) + (if row.left then 0 else 1)

-- how many entries of all workers may
abbrev pub room : List WorkerRow → ℕ
room [] = 0
room (row ∷ rows) = worker_room row + room rows

-- a ledger's rows say what its journal says, the journal is legal, and there is room for what needs no memory
pub record IsLedger (setup : Setup) (journal : Reserved Entry) (rows : Actions)
    (slots : List SlotRow) (workers : List WorkerRow) (ending : Bool) : Type 0 where
  pub aim : Aim
  pub legal : IsLegal aim setup (reverse journal.items)
  pub begun : is_some (seen_in (reverse journal.items)) ≡ true
  pub orderly : IsOrderly setup.declared setup.actions
  pub few : setup.limits.workers ≤ most_workers
  pub actions : RowsSay setup journal.items rows
  pub watched : AreSlots setup (reverse journal.items) slots
  pub workers_size : length workers ≡ setup.limits.workers
  pub each_worker : (w : ℕ) → w < setup.limits.workers
      → IsWorkerRow (reverse journal.items) w (get_or workers w no_worker)
  pub ending_is : ending ≡ is_ending (reverse journal.items)
  pub has_room : room workers ≤ journal.spare

-- each slot that some action starts is there, and no other action starts it
pub record StartsAreSingle (setup : Setup) : Type 0 where
  pub there : (a s : ℕ) → kind_of setup.actions a ≡ Some (ActionKind.StartSlot s)
      → s < length setup.declared.slots
  pub first : (a s : ℕ) → kind_of setup.actions a ≡ Some (ActionKind.StartSlot s)
      → start_of setup.actions s ≡ Some a

-- what a ledger keeps of a plan: a whole declared set, each slot started at most once, no more needs of an action than a count
-- tells, the rows of dependents, the containers that slots keep, what creates and makes, and how long each stop waits
pub record IsPlanned (setup : Setup) (kept_places : List (Option ℕ)) (rows : Dependents)
    (places : Places) : Type 0 where
  pub whole : IsWhole setup.declared
  pub single : StartsAreSingle setup
  pub few_needs : (a : ℕ) → length (needs_of setup.actions a)
      + length (slot_needs setup.declared (kind_of setup.actions a)) < count_bound
  pub dependents : AreDependents setup rows
  pub kept : AreKeptPlaces setup.declared setup.seen kept_places
  pub creates : (s : ℕ) → get_or places.creates s None ≡ create_of setup.actions s
  pub makes : (n : ℕ) → get_or places.makes n None ≡ make_of setup.actions n
  pub seconds : (c : ℕ) (row : Listed) → slice_get setup.seen.containers c ≡ Some row
      → slice_get places.seconds c ≡ Some (stop_seconds setup row)

-- the rows of slots after the good end of an action of this kind: reports on the slot that it starts count
abbrev pub counting : Option ActionKind → List SlotRow → List SlotRow
counting (Some (ActionKind.StartSlot s)) slots =
    set slots s (record (get_or slots s no_slot) { counts = true })
counting kind slots = slots

-- the decision that a step is
abbrev pub decision_of : Step → Decision
decision_of Step.Full = Full
decision_of Step.Go = Go
decision_of (Step.Take a) = Take a
decision_of (Step.Look s) = Look s
decision_of Step.Pause = Pause
