-- Why a call doesn't print the logs of a project, and its exit status.
use Rattle.std.specs.Prelude.{◌≡◌, ◌⊎◌, ℕ, ◌<◌, true, false, List, [], ◌∷◌, Option, Some, None, is_some, slice_get}
use Rattle.std.specs.List.{list_any}
use Rattle.engine_types.specs.declared.Declared.{Declared}
use Rattle.engine_types.specs.declared.Listed.{Listed}
use Rattle.engine_types.specs.declared.Request.{Request}
use Rattle.engine_types.specs.declared.Slot.{Slot}
use Rattle.run_model.specs.Ending.{logs_refusal_status}
use Rattle.log_frames.specs.Frames.{IsBadAt}
use Rattle.log_book.specs.declared.entries.LogEntry.{LogEntry}
use Rattle.engine_types.specs.declared.LogsRefusal.{LogsRefusal}
use Rattle.logs_run.specs.Fetching.{Fetch, bytes_told}
use Rattle.logs_run.specs.Slots.{container_of, has_terminal}

-- the exit status of a refusal; 0 without one
abbrev pub logs_status : Option LogsRefusal → ℕ
logs_status None = 0
logs_status (Some refusal) = logs_refusal_status refusal

-- the slot at a place is this one
abbrev pub IsSlot : Declared → ℕ → Slot → Type 0
IsSlot declared n slot = slice_get declared.slots n ≡ Some slot

-- one of the fetches is this one
abbrev pub Has : Fetch → List Fetch → Type 0
Has fetch [] = ⊥
Has fetch (one ∷ fetches) = (one ≡ fetch) ⊎ Has fetch fetches

-- a slot is refused for its terminal: it has one, and a container
pub record IsTerminal (slot : Slot) (row : Option Listed) (refusal : LogsRefusal) : Type 0 where
  pub terminal : has_terminal slot ≡ true
  pub there : is_some row ≡ true
  pub says : refusal ≡ LogsRefusal.Terminal slot.name

-- a slot is refused for what its container answered: its bytes are no frames from some place on
pub record IsUnframed (slot : Slot) (fetch : Fetch) (refusal : LogsRefusal) : Type 0 where
  pub bytes : List ℕ
  pub at : ℕ
  pub told : bytes_told fetch.outcome ≡ Some bytes
  pub bad : IsBadAt bytes at
  pub says : refusal ≡ LogsRefusal.Frames slot.name at

-- a slot is refused since its request wasn't answered with bytes
pub record IsFailed (fetch : Fetch) (refusal : LogsRefusal) : Type 0 where
  pub told : bytes_told fetch.outcome ≡ None
  pub says : refusal ≡ LogsRefusal.Request (Request.Logs fetch.task.id) fetch.outcome

-- what the slot at a place is refused for, by the listing and by what was fetched
pub record IsRefusedAt (declared : Declared) (rows : List Listed) (fetches : List Fetch) (n : ℕ)
    (refusal : LogsRefusal) : Type 0 where
  pub slot : Slot
  pub is : IsSlot declared n slot
  pub by : IsTerminal slot (container_of declared rows slot) refusal
      ⊎ ((fetch : Fetch) × Has fetch fetches × (fetch.task.slot ≡ n)
      × (IsUnframed slot fetch refusal ⊎ IsFailed fetch refusal))

-- no slot below a place is refused
abbrev pub AreSoundBelow : Declared → List Listed → List Fetch → ℕ → Type 0
AreSoundBelow declared rows fetches n =
    (m : ℕ) (refusal : LogsRefusal) → m < n → IsRefusedAt declared rows fetches m refusal → ⊥

-- no slot is refused
abbrev pub AreSound : Declared → List Listed → List Fetch → Type 0
AreSound declared rows fetches =
    (m : ℕ) (refusal : LogsRefusal) → IsRefusedAt declared rows fetches m refusal → ⊥

-- the refusal of the least slot that has one, then that of a full book; free where memory was wanted
abbrev pub IsRefusal : Declared → List Listed → List Fetch → List LogEntry → Option LogsRefusal → Type 0
IsRefusal declared rows fetches entries (Some LogsRefusal.Memory) = Unit {0}
IsRefusal declared rows fetches entries (Some LogsRefusal.LogsFull) =
    AreSound declared rows fetches × (list_any (λ e. e.full) entries ≡ true)
IsRefusal declared rows fetches entries (Some refusal) =
    (n : ℕ) × IsRefusedAt declared rows fetches n refusal × AreSoundBelow declared rows fetches n
IsRefusal declared rows fetches entries None =
    AreSound declared rows fetches × (list_any (λ e. e.full) entries ≡ false)
