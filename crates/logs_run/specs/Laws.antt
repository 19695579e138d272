-- What is proved of logs that were fetched, whatever they are.
use Rattle.std.specs.Prelude.{◌≡◌, ℕ, ◌%◌, Bool, true, false, List, [], length, map}
use Rattle.std.specs.List.{list_any}
use Rattle.outside_api.specs.Accounts.{Account}
use Rattle.log_frames.specs.declared.frame.Frame.{Frame}
use Rattle.log_frames.specs.Laws.{AreSome, lines_in, texts_of}
use Rattle.log_frames.specs.Lines.{lines_of}
use Rattle.log_book.specs.Books.{Book, IsBook, of_container}
use Rattle.log_book.specs.declared.entries.LogEntry.{LogEntry}
use Rattle.logs_run.specs.declared.tasks.Task.{Task}
use Rattle.logs_run.specs.Ending.{Has}
use Rattle.logs_run.specs.Fetching.{Fetch, IsFramed, Leaves}
use Rattle.logs_run.specs.Logged.{HaveFetched}
use Rattle.logs_run.specs.Slots.{AreAscending}

-- the texts of the lines of one side in entries
abbrev pub texts_in : Bool → List LogEntry → List (List ℕ)
texts_in err es = texts_of err (lines_in (map (λ e. e.lines) es))

-- of a container whose reply is frames: the lines of each side are some of the reply's, in order, each at most once; where no
-- entry is full and the fetch is whole they are exactly these, each once
abbrev pub LinesAreTheReplys : Type 0
LinesAreTheReplys =
    (history : List LogEntry) (w : ℕ) (whole : Bool) (fetch : Fetch) (es : List LogEntry) (bytes : List ℕ)
    (frames : List Frame) (err : Bool)
    → Leaves history w whole fetch es → IsFramed fetch bytes frames
    → AreSome (texts_in err es) (lines_of bytes frames err)
    × (whole ≡ true → list_any (λ e. e.full) es ≡ false
    → texts_in err es ≡ lines_of bytes frames err)

-- there are no other lines: each fetch leaves the entries of its slot, and is whole unless memory was wanted; a slot without a fetch
-- has none
abbrev pub NoOtherLines : Type 0
NoOtherLines =
    (book : Book) (all : List Task) (olds news : List Account) (fetches : List Fetch) (short : Bool)
    → IsBook book → book.workers ≡ length olds → AreAscending all
    → HaveFetched book.workers all book.entries 0 olds news fetches short
    → ((fetch : Fetch) → Has fetch fetches
    → (whole : Bool) × (short ≡ false → whole ≡ true)
    × Leaves book.entries (fetch.task.slot % book.workers) whole fetch
    (of_container fetch.task.slot book.entries))
    × ((slot : ℕ) → ((fetch : Fetch) → Has fetch fetches → fetch.task.slot ≡ slot → ⊥)
    → of_container slot book.entries ≡ [])
