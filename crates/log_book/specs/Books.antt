-- The book of several containers' lines.
use Rattle.std.specs.Prelude.{◌≡◌, ℕ, ◌+◌, ◌*◌, ◌%◌, ◌<◌, ◌≤◌, ◌==◌, true, List, [], ◌∷◌, ◌++◌, filter, length}
use Rattle.tree_base.specs.Limits.{count_bound, most_workers}
use Rattle.tree_base.specs.Reserved.{Reserved}
use Rattle.turn_ledger.specs.Own.{Each}
use Rattle.log_frames.specs.declared.line.LogLine.{LogLine}
use Rattle.log_book.specs.declared.entries.LogEntry.{LogEntry}

-- how many bytes the texts of lines have together
abbrev pub bytes_in : List LogLine → ℕ
bytes_in [] = 0
bytes_in (line ∷ lines) = length line.text + bytes_in lines

-- how many bytes the texts of all lines of entries have together
abbrev pub bytes_of : List LogEntry → ℕ
bytes_of [] = 0
bytes_of (entry ∷ entries) = bytes_in entry.lines + bytes_of entries

-- how many bytes the texts of all lines of a book have at most
abbrev pub most_log_bytes : ℕ
most_log_bytes = 268435456

-- how many entries a container has at most: one for each part of its reply
abbrev pub most_parts : ℕ
most_parts = 8

-- the entries of a container, in their order
abbrev pub of_container : ℕ → List LogEntry → List LogEntry
of_container container entries = filter (λ e. e.container == container) entries

-- a book as contracts see it: for how many slots and workers it is, and its entries
pub record Book : Type 0 where
  pub slots : ℕ
  pub workers : ℕ
  pub entries : List LogEntry

-- a book as it was begun
abbrev pub opening : Book → Book
opening book = record book { entries = [] }

-- a book with one entry more
abbrev pub grown : Book → LogEntry → Book
grown book e = record book { entries = book.entries ++ e ∷ [] }

-- an entry of a book for so many slots and workers: slots are dealt out to the workers in turn, and a full entry has no line
pub record IsEntry (slots workers : ℕ) (e : LogEntry) : Type 0 where
  pub below : e.container < slots
  pub own : e.worker ≡ e.container % workers
  pub bare : e.full ≡ true → e.lines ≡ []

-- a book: it is for 1 to 16 workers, 32 bits number its slots, no container has more entries than parts, and its lines have no
-- more bytes than a book holds
pub record IsBook (book : Book) : Type 0 where
  pub numbered : book.slots < count_bound
  pub some : 0 < book.workers
  pub few : book.workers ≤ most_workers
  pub each : Each (IsEntry book.slots book.workers) book.entries
  pub parts : (container : ℕ) → length (of_container container book.entries) ≤ most_parts
  pub within : bytes_of book.entries ≤ most_log_bytes

-- what a book keeps: it is one, its room is what its lines leave, and each entry that may come has its place
pub record IsKept (slots workers room : ℕ) (entries : Reserved LogEntry) : Type 0 where
  pub book : IsBook (record { slots = slots; workers = workers; entries = entries.items })
  pub left : room + bytes_of entries.items ≡ most_log_bytes
  pub places : most_parts * slots ≤ length entries.items + entries.spare
