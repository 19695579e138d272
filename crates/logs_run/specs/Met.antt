-- What a worker meets as it asks for the logs of its slots.
use Rattle.std.specs.Prelude.{◌≡◌, ◌⊎◌, ℕ, ◌<◌, true, false, not, unwrap_or, List, [], ◌∷◌, Option, Some, None, Result, Ok, Err}
use Rattle.turn_ledger.specs.Own.{Each}
use Rattle.turn_ledger.specs.Seats.{Opened, Sitting}
use Rattle.engine_types.specs.declared.Outcome.{Outcome}
use Rattle.engine_types.specs.declared.Request.{Request}
use Rattle.outside_api.specs.Accounts.{Account, IsCausedIn}
use Rattle.run_model.specs.Logs.{is_memory}
use Rattle.log_frames.specs.declared.frame.FrameRefusal.{FrameRefusal}
use Rattle.log_frames.specs.declared.frame.FrameRefusal.TheVariants as refusals
use Rattle.log_frames.specs.Frames.{IsBadAt}
use Rattle.log_book.specs.Books.{Book}
use Rattle.log_book.specs.declared.entries.LogEntry.{LogEntry}
use Rattle.logs_run.specs.declared.fetching.Fault.{Fault}
use Rattle.logs_run.specs.declared.fetching.Met.{Met}
use Rattle.logs_run.specs.declared.fetching.Reason.{Reason}
use Rattle.logs_run.specs.declared.tasks.Task.{Task}
use Rattle.logs_run.specs.Adding.{Grows, IsFetcher, SeatView}
use Rattle.logs_run.specs.Fetching.{Fetch, HasFetched, Leaves, bytes_told, exchange_of}
use Rattle.logs_run.specs.Slots.{AreAscending, own_tasks}

-- what a fetch is refused for: its bytes are no frames from a place on, or there are none
abbrev pub IsReason : Fetch → Reason → Type 0
IsReason fetch (Reason.Unframed at) =
    (bytes : List ℕ) × (bytes_told fetch.outcome ≡ Some bytes) × IsBadAt bytes at
IsReason fetch (Reason.Failed request outcome) =
    (request ≡ Request.Logs fetch.task.id) × (outcome ≡ fetch.outcome)
    × (bytes_told fetch.outcome ≡ None)

-- a fetch isn't refused
abbrev pub IsGood : Fetch → Type 0
IsGood fetch = (reason : Reason) → IsReason fetch reason → ⊥

-- a fault is of one of the fetches, and of the first that is refused; without one none is
abbrev pub IsFirstFault : List Fetch → Option Fault → Type 0
IsFirstFault [] None = Unit {0}
IsFirstFault [] (Some fault) = ⊥
IsFirstFault (fetch ∷ fetches) None = IsGood fetch × IsFirstFault fetches None
IsFirstFault (fetch ∷ fetches) (Some fault) =
    (IsGood fetch × IsFirstFault fetches (Some fault))
    ⊎ ((fault.slot ≡ fetch.task.slot) × IsReason fetch fault.reason)

-- whether a container's answer is told so
abbrev pub TellsOf : List ℕ → Outcome → Result (List ℕ) (Option Reason) → Type 0
TellsOf id outcome (Ok bytes) = bytes_told outcome ≡ Some bytes
TellsOf id outcome (Err None) = Unit {0}
TellsOf id outcome (Err (Some (Reason.Unframed at))) = ⊥
TellsOf id outcome (Err (Some (Reason.Failed request other))) =
    (bytes_told outcome ≡ None) × (is_memory outcome ≡ false) × (request ≡ Request.Logs id)
    × (other ≡ outcome)

-- a container was asked what it wrote; where memory is wanted for the request, nothing was sent
pub record AsksFor (id : List ℕ) (result : Result (List ℕ) (Option Reason)) (before after : Account) : Type 0 where
  pub outcome : Outcome
  pub caused : IsCausedIn (record { request = Request.Logs id; outcome = outcome }) before after
  pub tells : TellsOf id outcome result

-- what a worker notes of a fetch: its fault, where it has none yet
abbrev pub Notes : Fetch → Option Fault → Option Fault → Type 0
Notes fetch (Some fault) new = new ≡ Some fault
Notes fetch None None = IsGood fetch
Notes fetch None (Some fault) = (fault.slot ≡ fetch.task.slot) × IsReason fetch fault.reason

-- what adding a reply came to, as a worker notes it
abbrev pub noted_as : Result Unit FrameRefusal → Result Unit (Option Reason)
noted_as (Ok done) = Ok done
noted_as (Err (refusals.BadFrame at)) = Err (Some (Reason.Unframed at))
noted_as (Err refusals.Memory) = Err None

-- what a worker notes of a slot
abbrev pub NotesAs : ℕ → Result Unit (Option Reason) → Met → Met → Type 0
NotesAs slot (Ok done) old new = new ≡ old
NotesAs slot (Err None) old new = new ≡ record old { short = true }
NotesAs slot (Err (Some reason)) old new =
    new ≡ record old { fault = Some (unwrap_or old.fault (record { slot = slot; reason = reason })) }

-- one task was fetched: what its exchange came to, what it left in the book, and what the worker notes of it
pub record Meets (task : Task) (old new : Met) (seat after : SeatView) (before told : Account) : Type 0 where
  pub fetch : Fetch
  pub is : fetch.task ≡ task
  pub caused : IsCausedIn (exchange_of fetch) before told
  pub sent : new.short ≡ false → is_memory fetch.outcome ≡ false
  pub added : List LogEntry
  pub leaves : Leaves after.seen seat.number (not new.short) fetch added
  pub grows : Grows seat after added
  pub noted : new.short ≡ false → Notes fetch old.fault new.fault

-- a worker may begin: its seat has its number and has added nothing, it has met nothing, and the tasks' slots ascend
pub record MayFetch (turns : Opened Book) (seat : Sitting Book LogEntry) (met : Met) (all : List Task)
    (workers w : ℕ) : Type 0 where
  pub fetcher : IsFetcher turns seat
  pub number : seat.view.number ≡ w
  pub none : seat.view.mine ≡ []
  pub calm : met ≡ record { short = false; fault = None }
  pub workers_are : workers ≡ turns.object.workers
  pub some : 0 < workers
  pub below : Each (λ task. task.slot < turns.object.slots) all
  pub ascend : AreAscending all

-- a worker has fetched all its tasks, or fell short, and has the first of its slots that is refused
pub record HasFetchedAs (turns : Opened Book) (all : List Task) (workers w : ℕ)
    (old new : Sitting Book LogEntry) (met : Met) (before after : Account) : Type 0 where
  pub fetcher : IsFetcher turns new
  pub number : new.view.number ≡ old.view.number
  pub left : new.view.left ≡ old.view.left
  pub joined : new.view.joined ≡ old.view.joined
  pub fetched : HasFetched new.view.seen w (own_tasks workers w all) met.short new.view.mine
      before after
  pub fault : met.short ≡ false → IsFirstFault fetched.fetches met.fault
