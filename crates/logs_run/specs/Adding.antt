-- What a worker's seat goes through as it adds the lines of a reply.
use Rattle.std.specs.Prelude.{◌≡◌, ◌⊎◌, ℕ, ◌%◌, ◌<◌, List, [], ◌∷◌, ◌++◌, Result, Ok, Err}
use mathlib.Core.List.{IsPrefix}
use Rattle.tree_base.specs.declared.memory.Memory.{Memory}
use Rattle.turn_ledger.specs.Seats.{IsOf, Opened, Sitting}
use Rattle.turn_ledger.specs.declared.view.View.{View}
use Rattle.log_frames.specs.declared.frame.Frame.{Frame}
use Rattle.log_frames.specs.declared.frame.FrameRefusal.{FrameRefusal}
use Rattle.log_frames.specs.declared.frame.FrameRefusal.TheVariants as refusals
use Rattle.log_frames.specs.declared.line.LogLine.{LogLine}
use Rattle.log_frames.specs.Cutting.{begun}
use Rattle.log_frames.specs.Frames.{IsBadAt, IsReply}
use Rattle.log_frames.specs.Laws.{entries}
use Rattle.log_frames.specs.Parts.{parts_of}
use Rattle.log_book.specs.Books.{Book, of_container}
use Rattle.log_book.specs.declared.entries.LogEntry.{LogEntry}
use Rattle.logs_run.specs.Fetching.{AreParts, IsPart}

-- what a worker's seat knows
abbrev pub SeatView : Type 0
SeatView = View Book LogEntry

-- a seat in the turns of a book that was begun without an entry
pub record IsFetcher (turns : Opened Book) (seat : Sitting Book LogEntry) : Type 0 where
  pub of : IsOf turns seat
  pub empty : turns.object.entries ≡ []

-- a slot is one of the seat's worker
pub record MayAddTo (turns : Opened Book) (v : SeatView) (slot : ℕ) : Type 0 where
  pub below : slot < turns.object.slots
  pub own : v.number ≡ slot % turns.object.workers

-- the worker added nothing of a slot yet
abbrev pub HasNone : SeatView → ℕ → Type 0
HasNone v slot = of_container slot v.mine ≡ []

-- a seat went on, and its worker added these entries
pub record Grows (old new : SeatView) (added : List LogEntry) : Type 0 where
  pub number : new.number ≡ old.number
  pub left : new.left ≡ old.left
  pub joined : new.joined ≡ old.joined
  pub seen : IsPrefix old.seen new.seen
  pub mine : new.mine ≡ old.mine ++ added

-- a worker added one part
pub record AddsEntry (lines : List LogLine) (slot : ℕ) (old new : SeatView) : Type 0 where
  pub entry : LogEntry
  pub is : IsPart new.seen old.number slot lines entry
  pub grows : Grows old new (entry ∷ [])

-- a worker added the first parts of a reply's frames
pub record AddsSome (bytes : List ℕ) (frames : List Frame) (slot : ℕ) (old new : SeatView) : Type 0 where
  pub parts : List (List LogLine)
  pub first : IsPrefix parts (entries begun bytes slot (parts_of frames))
  pub added : List LogEntry
  pub are : AreParts new.seen old.number slot parts added
  pub grows : Grows old new added

-- a worker added all parts of a reply's frames
pub record AddsAll (bytes : List ℕ) (frames : List Frame) (slot : ℕ) (old new : SeatView) : Type 0 where
  pub added : List LogEntry
  pub are : AreParts new.seen old.number slot
      (entries begun bytes slot (parts_of frames)) added
  pub grows : Grows old new added

-- a worker added the parts of a reply's frames, not all of them where memory was wanted
abbrev pub AddsParts : List ℕ → List Frame → ℕ → SeatView → SeatView → Result Unit Memory → Type 0
AddsParts bytes frames slot old new (Ok done) = AddsAll bytes frames slot old new
AddsParts bytes frames slot old new (Err wanted) = AddsSome bytes frames slot old new

-- a worker added what a reply holds: nothing where it isn't frames
abbrev pub AddsReply : List ℕ → ℕ → SeatView → SeatView → Result Unit FrameRefusal → Type 0
AddsReply bytes slot old new (Ok done) =
    (frames : List Frame) × IsReply bytes frames × AddsAll bytes frames slot old new
AddsReply bytes slot old new (Err (refusals.BadFrame at)) = IsBadAt bytes at × (new ≡ old)
AddsReply bytes slot old new (Err refusals.Memory) =
    (new ≡ old) ⊎ ((frames : List Frame) × IsReply bytes frames × AddsSome bytes frames slot old new)
