-- What a worker asks for, and what it leaves in the book.
use Rattle.std.specs.Prelude.{◌≡◌, ◌⊎◌, ℕ, ◌+◌, ◌<◌, Bool, true, false, not, List, [], ◌∷◌, ◌++◌, Option, Some, None, map}
use Rattle.std.specs.List.{list_all}
use mathlib.Core.List.{IsPrefix}
use Rattle.turn_ledger.specs.Own.{Each}
use Rattle.engine_types.specs.declared.Exchange.{Exchange}
use Rattle.engine_types.specs.declared.Outcome.{Outcome}
use Rattle.engine_types.specs.declared.Reply.{Reply}
use Rattle.engine_types.specs.declared.Request.{Request}
use Rattle.outside_api.specs.Accounts.{Account, AreCaused}
use Rattle.run_model.specs.Logs.{GrowsBy, is_memory}
use Rattle.log_frames.specs.declared.frame.Frame.{Frame}
use Rattle.log_frames.specs.declared.line.LogLine.{LogLine}
use Rattle.log_frames.specs.Cutting.{begun}
use Rattle.log_frames.specs.Frames.{IsReply}
use Rattle.log_frames.specs.Laws.{entries}
use Rattle.log_frames.specs.Parts.{parts_of}
use Rattle.log_book.specs.Books.{bytes_in, bytes_of, most_log_bytes}
use Rattle.log_book.specs.declared.entries.LogEntry.{LogEntry}
use Rattle.logs_run.specs.declared.tasks.Task.{Task}

-- a slot whose container was asked, and what came of it
pub record Fetch : Type 0 where
  pub task : Task
  pub outcome : Outcome

-- its exchange
abbrev pub exchange_of : Fetch → Exchange
exchange_of fetch = record { request = Request.Logs fetch.task.id; outcome = fetch.outcome }

-- the bytes that were answered
abbrev pub bytes_told : Outcome → Option (List ℕ)
bytes_told (Outcome.Answered (Reply.Bytes bytes)) = Some bytes
bytes_told outcome = None

-- these lines would pass what a book holds, behind the entries before one of its history
abbrev pub ArePast : List LogEntry → List LogLine → LogEntry → Type 0
ArePast history lines e =
    (before : List LogEntry) × IsPrefix (before ++ e ∷ []) history
    × (most_log_bytes < bytes_of before + bytes_in lines)

-- an entry of a book's history is of a worker and of a slot, and has the lines of a part; or it is full and has none, since they would
-- pass what a book holds
pub record IsPart (history : List LogEntry) (w slot : ℕ) (lines : List LogLine) (e : LogEntry) : Type 0 where
  pub worker : e.worker ≡ w
  pub container : e.container ≡ slot
  pub has : ((e.full ≡ false) × (e.lines ≡ lines))
      ⊎ ((e.full ≡ true) × (e.lines ≡ []) × ArePast history lines e)

-- entries of parts, one for each, in their order
abbrev pub AreParts : List LogEntry → ℕ → ℕ → List (List LogLine) → List LogEntry → Type 0
AreParts history w slot [] [] = Unit {0}
AreParts history w slot (lines ∷ parts) (e ∷ es) =
    IsPart history w slot lines e × AreParts history w slot parts es
AreParts history w slot [] (e ∷ es) = ⊥
AreParts history w slot (lines ∷ parts) [] = ⊥

-- these are the frames of what was answered
pub record IsFramed (fetch : Fetch) (bytes : List ℕ) (frames : List Frame) : Type 0 where
  pub told : bytes_told fetch.outcome ≡ Some bytes
  pub reply : IsReply bytes frames

-- what a fetch leaves in the book are entries of its worker and its slot: of a reply that is frames one for each part, where it
-- isn't whole perhaps not the last ones; and nothing of another outcome
pub record Leaves (history : List LogEntry) (w : ℕ) (whole : Bool) (fetch : Fetch) (es : List LogEntry) : Type 0 where
  pub own : Each (λ (e : LogEntry). (e.worker ≡ w) × (e.container ≡ fetch.task.slot)) es
  pub framed : (bytes : List ℕ) (frames : List Frame) → IsFramed fetch bytes frames
      → (parts : List (List LogLine)) × AreParts history w fetch.task.slot parts es
      × IsPrefix parts (entries begun bytes fetch.task.slot (parts_of frames))
      × (whole ≡ true → parts ≡ entries begun bytes fetch.task.slot (parts_of frames))
  pub unframed : ((bytes : List ℕ) (frames : List Frame) → IsFramed fetch bytes frames → ⊥) → es ≡ []

-- whether a fetch is whole: another one follows it, or its worker didn't fall short
abbrev pub is_whole : Bool → List Fetch → Bool
is_whole last [] = last
is_whole last (next ∷ fetches) = true

-- what fetches leave in the book, one after another
abbrev pub AllLeave : List LogEntry → ℕ → Bool → List Fetch → List LogEntry → Type 0
AllLeave history w last [] es = es ≡ []
AllLeave history w last (fetch ∷ fetches) es =
    (first : List LogEntry) × (rest : List LogEntry) × (es ≡ first ++ rest)
    × Leaves history w (is_whole last fetches) fetch first × AllLeave history w last fetches rest

-- what a worker did: it asked what it had to, in order, all of it unless it fell short; its hand's log grew by these exchanges,
-- each with its cause in itself; and its entries of the history are what they leave
pub record HasFetched (history : List LogEntry) (w : ℕ) (all : List Task) (short : Bool) (mine : List LogEntry)
    (before after : Account) : Type 0 where
  pub fetches : List Fetch
  pub asked : IsPrefix (map (λ f. f.task) fetches) all
  pub whole : short ≡ false → map (λ f. f.task) fetches ≡ all
  pub sent : short ≡ false → list_all (λ f. not (is_memory f.outcome)) fetches ≡ true
  pub log : GrowsBy (map exchange_of fetches) before.log after.log
  pub caused : AreCaused (map exchange_of fetches) before after
  pub left : AllLeave history w (not short) fetches mine
