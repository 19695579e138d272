-- What a worker may add to a book, by its own entries, and what a call gives.
use Rattle.std.proofs.Common.{arith}
use Rattle.std.specs.Prelude.{◌≡◌, ℕ, ◌+◌, ◌*◌, ◌%◌, ◌<◌, ◌^◌, nat_le, Bool, true, false, if◌then◌else◌, List, [], length}
use Rattle.tree_base.specs.Limits.{count_bound}
use Rattle.log_frames.specs.declared.line.LogLine.{LogLine}
use Rattle.log_book.specs.declared.entries.LogAnswer.{LogAnswer}
use Rattle.log_book.specs.declared.entries.LogCall.{LogCall}
use Rattle.log_book.specs.declared.entries.LogEntry.{LogEntry}
use Rattle.log_book.specs.Books.{Book, bytes_in, bytes_of, most_log_bytes, most_parts, of_container}

-- a worker may add lines of a container, by its own entries: the container is one of its slots', and has an entry left
pub record MayAdd (opened : Book) (w : ℕ) (mine : List LogEntry) (container : ℕ) : Type 0 where
  pub below : container < opened.slots
  pub own : w ≡ container % opened.workers
  pub fewer : length (of_container container mine) < most_parts

-- a worker may make a call, by what the book was begun for and by its own entries
abbrev pub MayCall : Book → ℕ → List LogEntry → LogCall → Type 0
MayCall opened w mine (LogCall.Add container lines) = MayAdd opened w mine container

-- whether a book holds these lines behind its entries
abbrev pub fits : List LogEntry → List LogLine → Bool
fits before lines = nat_le (bytes_of before + bytes_in lines) most_log_bytes

-- the entry of a part's lines: it has them where they fit, and else is full and has none
abbrev pub part_entry : ℕ → ℕ → List LogLine → Bool → LogEntry
part_entry w container lines true =
    record { worker = w; container = container; lines = lines; full = false }
part_entry w container lines false =
    record { worker = w; container = container; lines = []; full = true }

-- the entry that a call at these entries leaves
abbrev pub entered : List LogEntry → ℕ → LogCall → LogEntry
entered before w (LogCall.Add container lines) = part_entry w container lines (fits before lines)

-- what a call at these entries is answered
abbrev pub answered : List LogEntry → LogCall → LogAnswer
answered before (LogCall.Add container lines) =
    if fits before lines then LogAnswer.Added else LogAnswer.Full

-- a call at these entries gives this answer, and leaves this entry
abbrev pub Gives : List LogEntry → ℕ → LogCall → LogAnswer → LogEntry → Type 0
Gives before w call answer e = (answer ≡ answered before call) × (e ≡ entered before w call)

-- no book has more entries: so many of each slot that 32 bits number
abbrev pub most : ℕ
most = most_parts * count_bound

-- that many entries can be counted
pub most_small : most < 2 ^ 63
most_small = omega arith
