-- What a call is refused with, by what its workers met.
use Rattle.std.specs.Prelude.{◌≡◌, ℕ, ◌<◌, true, false, List, Option, Some, None, is_some, if◌then◌else◌}
use Rattle.std.specs.List.{list_any}
use Rattle.engine_types.specs.declared.Declared.{Declared}
use Rattle.engine_types.specs.declared.Listed.{Listed}
use Rattle.engine_types.specs.declared.Slot.{Slot}
use Rattle.log_book.specs.declared.entries.LogEntry.{LogEntry}
use Rattle.logs_run.specs.declared.fetching.Fault.{Fault}
use Rattle.logs_run.specs.declared.fetching.Met.{Met}
use Rattle.logs_run.specs.declared.fetching.Reason.{Reason}
use Rattle.engine_types.specs.declared.LogsRefusal.{LogsRefusal}
use Rattle.logs_run.specs.Ending.{AreSound, AreSoundBelow, Has, IsRefusal, IsRefusedAt, IsSlot}
use Rattle.logs_run.specs.Fetching.{Fetch}
use Rattle.logs_run.specs.Met.{IsGood, IsReason}
use Rattle.logs_run.specs.Slots.{container_of, has_terminal}

-- a fault is the one of the least slot of these fetches that is refused; without one none is
abbrev pub IsLeastFault : List Fetch → Option Fault → Type 0
IsLeastFault fetches None = (fetch : Fetch) → Has fetch fetches → IsGood fetch
IsLeastFault fetches (Some fault) =
    (fetch : Fetch) × Has fetch fetches × (fault.slot ≡ fetch.task.slot) × IsReason fetch fault.reason
    × ((other : Fetch) → Has other fetches → other.task.slot < fault.slot → IsGood other)

-- the slot at a place has a terminal and a container
pub record HasTerminal (declared : Declared) (rows : List Listed) (n : ℕ) : Type 0 where
  pub slot : Slot
  pub is : IsSlot declared n slot
  pub terminal : has_terminal slot ≡ true
  pub there : is_some (container_of declared rows slot) ≡ true

-- this is the first such slot; without one there is none
abbrev pub IsFirstTerminal : Declared → List Listed → Option ℕ → Type 0
IsFirstTerminal declared rows None = (m : ℕ) → HasTerminal declared rows m → ⊥
IsFirstTerminal declared rows (Some n) =
    HasTerminal declared rows n × ((m : ℕ) → m < n → HasTerminal declared rows m → ⊥)

-- the refusal of a slot's terminal
abbrev pub IsTerminalRefusal : Declared → ℕ → LogsRefusal → Type 0
IsTerminalRefusal declared n refusal =
    (slot : Slot) × IsSlot declared n slot × (refusal ≡ LogsRefusal.Terminal slot.name)

-- what a slot is refused with for a reason
abbrev pub said_of : Slot → Reason → LogsRefusal
said_of slot (Reason.Unframed at) = LogsRefusal.Frames slot.name at
said_of slot (Reason.Failed request outcome) = LogsRefusal.Request request outcome

-- the refusal of a fault, which names its slot where what came are no frames
abbrev pub IsFaultRefusal : Declared → Fault → LogsRefusal → Type 0
IsFaultRefusal declared fault refusal =
    (slot : Slot) × IsSlot declared fault.slot slot × (refusal ≡ said_of slot fault.reason)

-- the refusal of the least slot that has one, whatever was fetched with that fault
abbrev pub SlotRefusedBy : Declared → List Listed → Option Fault → Option LogsRefusal → Type 0
SlotRefusedBy declared rows fault None =
    (fetches : List Fetch) → IsLeastFault fetches fault → AreSound declared rows fetches
SlotRefusedBy declared rows fault (Some refusal) =
    (fetches : List Fetch) → IsLeastFault fetches fault
    → (n : ℕ) × IsRefusedAt declared rows fetches n refusal × AreSoundBelow declared rows fetches n

-- a refusal, else that of a full book
abbrev pub or_full : Option LogsRefusal → List LogEntry → Option LogsRefusal
or_full (Some refusal) entries = Some refusal
or_full None entries = if list_any (λ e. e.full) entries then Some LogsRefusal.LogsFull else None

-- what a call is refused with whose workers have met this, whatever they fetched; memory where one fell short
pub record RefusedBy (declared : Declared) (rows : List Listed) (met : Met) (entries : List LogEntry)
    (refusal : Option LogsRefusal) : Type 0 where
  pub short : met.short ≡ true → refusal ≡ Some LogsRefusal.Memory
  pub refused : (fetches : List Fetch) → (met.short ≡ false → IsLeastFault fetches met.fault)
      → IsRefusal declared rows fetches entries refusal
