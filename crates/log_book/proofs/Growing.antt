-- What one entry more makes of a book.
use Rattle.std.proofs.Common.{◌≡◌, ◌∙◌, ℕ, ◌+◌, ◌*◌, ◌<◌, ◌≤◌, Bool, true, false, List, [], ◌∷◌, ◌++◌, length, length-append, refl, sym, ap, subst, arith}
use Rattle.std.proofs.lemmas.Bool.{le-leb, lt-leb}
use Rattle.tree_base.specs.Limits.{count_bound, most_workers}
use Rattle.tree_base.specs.Reserved.{Reserved}
use Rattle.turn_ledger.specs.Own.{Each, own}
use Rattle.log_frames.specs.declared.line.LogLine.{LogLine}
use Rattle.log_book.specs.declared.entries.LogEntry.{LogEntry}
use Rattle.log_book.specs.Books.{Book, IsBook, IsEntry, IsKept, bytes_in, bytes_of, grown, most_log_bytes, most_parts, of_container, opening}
use Rattle.log_book.specs.Calls.{MayAdd, fits}
use Rattle.log_book.proofs.Counting.{few_entries, own_are_all, parts_with}

-- a book without an entry
pub begun : (slots workers : ℕ) (entries : Reserved LogEntry) → slots < count_bound → 0 < workers → workers ≤ most_workers → entries.items ≡ [] → most_parts * slots ≤ entries.spare
    → IsKept slots workers most_log_bytes entries
begun slots workers entries numbered some few none places = record {
  book = subst (λ (es : List LogEntry). IsBook (record { slots = slots; workers = workers; entries = es })) (sym none)
      (record { numbered = numbered; some = some; few = few; each = tt; parts = λ c. omega arith; within = omega arith });
  left = subst (λ (es : List LogEntry). most_log_bytes + bytes_of es ≡ most_log_bytes) (sym none) (omega arith);
  places = omega (arith, places);
}

each_put : (P : LogEntry → Type 0) (es : List LogEntry) (e : LogEntry) → Each P es → P e → Each P (es ++ e ∷ [])
each_put P [] e h p = (p, tt)
each_put P (x ∷ es) e (one, more) p = (one, each_put P es e more p)

pub bytes_put : (es : List LogEntry) (e : LogEntry) → bytes_of (es ++ e ∷ []) ≡ bytes_of es + bytes_in e.lines
bytes_put [] e = omega arith
bytes_put (x ∷ es) e = let rec = bytes_put es e in omega (arith, rec)

-- one entry more of a container that has one left
more : (book : Book) (w container : ℕ) (lines : List LogLine) (full : Bool) → IsBook book → MayAdd (opening book) w (own (λ e. e.worker) w book.entries) container
    → (full ≡ true → lines ≡ []) → bytes_of book.entries + bytes_in lines ≤ most_log_bytes
    → IsBook (grown book (record { worker = w; container = container; lines = lines; full = full }))
more book w container lines full b may bare holds = record {
  numbered = b.numbered;
  some = b.some;
  few = b.few;
  each = each_put (IsEntry book.slots book.workers) book.entries entry b.each (record { below = may.below; own = may.own; bare = bare });
  parts = λ c. parts_with c book.entries entry (b.parts c) fewer;
  within = let all = bytes_put book.entries entry in omega (arith, all, holds);
}
  where
    entry : LogEntry
    entry = record { worker = w; container = container; lines = lines; full = full }

    fewer : length (of_container container book.entries) < most_parts
    fewer = subst (λ (es : List LogEntry). length es < most_parts) (own_are_all book.slots book.workers container w book.entries b.each may.own) may.fewer

-- lines that leave so much room
pub lines_more : (book : Book) (w container : ℕ) (lines : List LogLine) (room left : ℕ) → IsBook book → MayAdd (opening book) w (own (λ e. e.worker) w book.entries) container
    → room + bytes_of book.entries ≡ most_log_bytes → left + bytes_in lines ≡ room
    → IsBook (grown book (record { worker = w; container = container; lines = lines; full = false }))
lines_more book w container lines room left b may has leaves = more book w container lines false b may (λ h. absurd (cc h)) (omega (arith, has, leaves))

pub lines_leave : (es : List LogEntry) (w container : ℕ) (lines : List LogLine) (room left : ℕ) → room + bytes_of es ≡ most_log_bytes → left + bytes_in lines ≡ room
    → left + bytes_of (es ++ record { worker = w; container = container; lines = lines; full = false } ∷ []) ≡ most_log_bytes
lines_leave es w container lines room left has leaves =
    let all = bytes_put es (record { worker = w; container = container; lines = lines; full = false }) in omega (arith, all, has, leaves)

-- a full entry
pub full_more : (book : Book) (w container : ℕ) → IsBook book → MayAdd (opening book) w (own (λ e. e.worker) w book.entries) container
    → IsBook (grown book (record { worker = w; container = container; lines = []; full = true }))
full_more book w container b may = let within = b.within in more book w container [] true b may (λ h. refl) (omega (arith, within))

-- lines fit exactly where room is left behind them
pub holds : (es : List LogEntry) (lines : List LogLine) (room left : ℕ) → room + bytes_of es ≡ most_log_bytes → left + bytes_in lines ≡ room → fits es lines ≡ true
holds es lines room left has leaves = le-leb (bytes_of es + bytes_in lines) most_log_bytes (omega (arith, has, leaves))

pub is_full : (es : List LogEntry) (lines : List LogLine) (room : ℕ) → room + bytes_of es ≡ most_log_bytes → room < bytes_in lines → fits es lines ≡ false
is_full es lines room has over = lt-leb (bytes_of es + bytes_in lines) most_log_bytes (omega (arith, has, over))

-- an entry is put: there is a place for it, and one less behind it
pub has_place : (slots workers room : ℕ) (entries : Reserved LogEntry) (e : LogEntry) → IsKept slots workers room entries
    → IsBook (grown (record { slots = slots; workers = workers; entries = entries.items }) e) → 0 < entries.spare
has_place slots workers room entries e kept book =
    let few : length (entries.items ++ e ∷ []) ≤ most_parts * slots = few_entries (grown (record { slots = slots; workers = workers; entries = entries.items }) e) book in
    let long : length (entries.items ++ e ∷ []) ≡ length entries.items + 1 = length-append entries.items (e ∷ []) in
    let places = kept.places in omega (arith, few, long, places)

pub kept_put : (slots workers room left : ℕ) (old new : Reserved LogEntry) (e : LogEntry) → IsKept slots workers room old
    → IsBook (grown (record { slots = slots; workers = workers; entries = old.items }) e)
    → left + bytes_of (old.items ++ e ∷ []) ≡ most_log_bytes → new.items ≡ old.items ++ e ∷ [] → old.spare ≤ new.spare + 1
    → IsKept slots workers left new
kept_put slots workers room left old new e kept book leaves put spare =
    let long : length new.items ≡ length old.items + 1 = ap (λ (es : List LogEntry). length es) put ∙ length-append old.items (e ∷ []) in
    let places = kept.places in record {
      book = subst (λ (es : List LogEntry). IsBook (record { slots = slots; workers = workers; entries = es })) (sym put) book;
      left = subst (λ (es : List LogEntry). left + bytes_of es ≡ most_log_bytes) (sym put) leaves;
      places = omega (arith, long, places, spare);
    }
