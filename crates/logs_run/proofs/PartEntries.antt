-- The entries of a reply's parts, one after the other.
use Rattle.std.proofs.Common.{◌≡◌, ◌∙◌, ℕ, zero, suc, ◌+◌, ◌*◌, ◌/◌, ◌<◌, ◌≤◌, Bool, true, false, cond, List, [], ◌∷◌, ◌++◌, length, length-append, take, drop, refl, sym, ap, subst, inl, inr, append_assoc, arith}
use Rattle.std.proofs.lemmas.Bool.{cases_lt, eq-eqb, le-leb}
use Rattle.std.proofs.lemmas.List.{append-nil, drop_all, length-drop, take_all}
use Rattle.std.proofs.lemmas.List.Elements.{All-drop, All-take, filter-append}
use Rattle.std.specs.Prelude.{◌==◌, nat_le}
use mathlib.Core.List.{IsPrefix}
use Rattle.turn_ledger.specs.Own.{Each, own}
use Rattle.turn_ledger.specs.Seats.{Opened}
use Rattle.turn_ledger.specs.Turning.{Acts}
use Rattle.turn_ledger.proofs.Lists.{prefix_self, prefix_trans}
use Rattle.log_frames.specs.declared.frame.Frame.{Frame}
use Rattle.log_frames.specs.declared.line.LogLine.{LogLine}
use Rattle.log_frames.specs.Frames.{LieIn}
use Rattle.log_frames.specs.Cutting.{after, begun, ended, rest_lines}
use Rattle.log_frames.specs.Laws.{entries}
use Rattle.log_frames.specs.Parts.{in_parts, part_size, parts_of}
use Rattle.log_frames.specs.Sides.{Sides}
use Rattle.log_book.specs.Books.{Book, bytes_in, bytes_of, most_log_bytes, most_parts, of_container, opening}
use Rattle.log_book.specs.Calls.{Gives, MayCall, fits, part_entry}
use Rattle.log_book.specs.declared.entries.LogAnswer.{LogAnswer}
use Rattle.log_book.specs.declared.entries.LogCall.{LogCall}
use Rattle.log_book.specs.declared.entries.LogEntry.{LogEntry}
use Rattle.logs_run.specs.Adding.{AddsAll, AddsEntry, AddsSome, Grows, HasNone, MayAddTo, SeatView}
use Rattle.logs_run.specs.Fetching.{AreParts, ArePast, IsPart}

pub grows_none : (v : SeatView) → Grows v v []
grows_none v = record { number = refl; left = refl; joined = refl; seen = prefix_self v.seen; mine = sym (append-nil v.mine) }

pub grows_on : (a b c : SeatView) (xs ys : List LogEntry) → Grows a b xs → Grows b c ys → Grows a c (xs ++ ys)
grows_on a b c xs ys one more = record {
  number = more.number ∙ one.number;
  left = more.left ∙ one.left;
  joined = more.joined ∙ one.joined;
  seen = prefix_trans a.seen b.seen c.seen one.seen more.seen;
  mine = more.mine ∙ ap (λ (l : List LogEntry). l ++ ys) one.mine ∙ append_assoc a.mine xs ys;
}

-- past what a book holds
over_so : (n : ℕ) → nat_le n most_log_bytes ≡ false → most_log_bytes < n
over_so n is = elim (cases_lt most_log_bytes n) [
  | inl over ↦ over
  | inr fit ↦ absurd (let both : true ≡ false = sym (le-leb n most_log_bytes fit) ∙ is in cc both)
]

part_has : (history : List LogEntry) (w slot : ℕ) (lines : List LogLine) (t : Bool) → (t ≡ false → ArePast history lines (part_entry w slot lines false)) → IsPart history w slot lines (part_entry w slot lines t)
part_has history w slot lines true past = record { worker = refl; container = refl; has = inl (refl, refl) }
part_has history w slot lines false past = record { worker = refl; container = refl; has = inr (refl, refl, past refl) }

-- the same in a history that goes on
pub part_more : (history more : List LogEntry) (w slot : ℕ) (lines : List LogLine) (e : LogEntry) → IsPrefix history more → IsPart history w slot lines e → IsPart more w slot lines e
part_more history more w slot lines e goes p = record {
  worker = p.worker;
  container = p.container;
  has = elim p.has [
    | inl h ↦ inl h
    | inr h ↦ inr (h.0, h.1, (h.2.0, prefix_trans (h.2.0 ++ e ∷ []) history more h.2.1 goes, h.2.2))
  ];
}

pub parts_more : (history more : List LogEntry) (w slot : ℕ) (done : List (List LogLine)) (added : List LogEntry) → IsPrefix history more → AreParts history w slot done added → AreParts more w slot done added
parts_more history more w slot [] [] goes h = tt
parts_more history more w slot [] (x ∷ es) goes h = absurd h
parts_more history more w slot (ls ∷ done) [] goes h = absurd h
parts_more history more w slot (ls ∷ done) (x ∷ es) goes (one, rest) = (part_more history more w slot ls x goes one, parts_more history more w slot done es goes rest)

-- a call adds one part
pub adds_entry : (q : Book) (v w : SeatView) (slot : ℕ) (lines : List LogLine) (answer : LogAnswer)
    → q.entries ≡ [] → Acts (λ (book : Book). book.entries) (λ book. opening book) (λ (e : LogEntry). e.worker) (λ opened before n call told e. Gives before n call told e) q v (LogCall.Add slot lines) answer w
    → AddsEntry lines slot v w
adds_entry q v w slot lines answer empty a = record {
  entry = a.1;
  is = subst (λ (e : LogEntry). IsPart w.seen v.number slot lines e) (sym a.6.1) (part_has w.seen v.number slot lines (fits (q.entries ++ a.0) lines) past);
  grows = record {
    number = ap (λ (x : SeatView). x.number) a.3;
    left = ap (λ (x : SeatView). x.left) a.3;
    joined = ap (λ (x : SeatView). x.joined) a.3;
    seen = prefix_trans v.seen a.0 w.seen a.2 (a.1 ∷ [], sym (ap (λ (x : SeatView). x.seen) a.3));
    mine = ap (λ (x : SeatView). x.mine) a.3;
  };
}
  where
    seen_is : w.seen ≡ a.0 ++ a.1 ∷ []
    seen_is = ap (λ (x : SeatView). x.seen) a.3

    none_before : fits (q.entries ++ a.0) lines ≡ false → fits a.0 lines ≡ false
    none_before h = subst (λ (es : List LogEntry). fits (es ++ a.0) lines ≡ false) empty h

    entry_is : fits (q.entries ++ a.0) lines ≡ false → a.1 ≡ part_entry v.number slot lines false
    entry_is h = a.6.1 ∙ ap (λ (t : Bool). part_entry v.number slot lines t) h

    past : fits (q.entries ++ a.0) lines ≡ false → ArePast w.seen lines (part_entry v.number slot lines false)
    past h = (
      a.0,
      ([], append-nil (a.0 ++ part_entry v.number slot lines false ∷ []) ∙ ap (λ (e : LogEntry). a.0 ++ e ∷ []) (sym (entry_is h)) ∙ sym seen_is),
      over_so (bytes_of a.0 + bytes_in lines) (none_before h),
    )

-- a worker may make the call, by its own entries
pub may_call : (turns : Opened Book) (v : SeatView) (slot : ℕ) (lines : List LogLine) → turns.object.entries ≡ [] → MayAddTo turns v slot → length (of_container slot v.mine) < most_parts
    → MayCall (opening turns.object) v.number (own (λ e. e.worker) v.number turns.object.entries ++ v.mine) (LogCall.Add slot lines)
may_call turns v slot lines empty may fewer = record {
  below = may.below;
  own = may.own;
  fewer = subst (λ (es : List LogEntry). length (of_container slot (own (λ e. e.worker) v.number es ++ v.mine)) < most_parts) (sym empty) fewer;
}

pub parts_put : (history : List LogEntry) (w slot : ℕ) (done : List (List LogLine)) (added : List LogEntry) (lines : List LogLine) (e : LogEntry) → AreParts history w slot done added → IsPart history w slot lines e
    → AreParts history w slot (done ++ lines ∷ []) (added ++ e ∷ [])
parts_put history w slot [] [] lines e h is = (is, tt)
parts_put history w slot [] (x ∷ es) lines e h is = absurd h
parts_put history w slot (ls ∷ done) [] lines e h is = absurd h
parts_put history w slot (ls ∷ done) (x ∷ es) lines e (one, more) is = (one, parts_put history w slot done es lines e more is)

pub as_many : (history : List LogEntry) (w slot : ℕ) (done : List (List LogLine)) (added : List LogEntry) → AreParts history w slot done added → length added ≡ length done
as_many history w slot [] [] h = refl
as_many history w slot [] (x ∷ es) h = absurd h
as_many history w slot (ls ∷ done) [] h = absurd h
as_many history w slot (ls ∷ done) (x ∷ es) (one, more) = ap (λ (n : ℕ). suc n) (as_many history w slot done es more)

pub parts_own : (history : List LogEntry) (w slot : ℕ) (done : List (List LogLine)) (added : List LogEntry) → AreParts history w slot done added → Each (λ (e : LogEntry). (e.worker ≡ w) × (e.container ≡ slot)) added
parts_own history w slot [] [] h = tt
parts_own history w slot [] (x ∷ es) h = absurd h
parts_own history w slot (ls ∷ done) [] h = absurd h
parts_own history w slot (ls ∷ done) (x ∷ es) (one, more) = ((one.worker, one.container), parts_own history w slot done es more)

kept_in : (t : Bool) (e : LogEntry) (xs ys : List LogEntry) → t ≡ true → xs ≡ ys → cond t (e ∷ xs) xs ≡ e ∷ ys
kept_in t e xs ys h g = rw h (ap (λ (l : List LogEntry). e ∷ l) g)

-- all of one slot are its entries
pub all_of : (w slot : ℕ) (es : List LogEntry) → Each (λ (e : LogEntry). (e.worker ≡ w) × (e.container ≡ slot)) es → of_container slot es ≡ es
all_of w slot [] h = refl
all_of w slot (e ∷ es) (one, more) = kept_in (e.container == slot) e (of_container slot es) es (eq-eqb e.container slot one.1) (all_of w slot es more)

-- frames that lie in the bytes
pub lie_take : (bytes : List ℕ) (n : ℕ) (fs : List Frame) → LieIn bytes fs → LieIn bytes (take n fs)
lie_take bytes n fs h = All-take (λ (frame : Frame). (frame.start ≤ frame.end) × (frame.end ≤ length bytes)) n fs h

pub lie_drop : (bytes : List ℕ) (n : ℕ) (fs : List Frame) → LieIn bytes fs → LieIn bytes (drop n fs)
lie_drop bytes n fs h = All-drop (λ (frame : Frame). (frame.start ≤ frame.end) × (frame.end ≤ length bytes)) n fs h

-- so many times a number
abbrev times : ℕ → ℕ → ℕ
times zero n = 0
times (suc k) n = n + times k n

times_none : (k : ℕ) → times k 0 ≡ 0
times_none zero = refl
times_none (suc k) = let rec = times_none k in let sum : 0 + times k 0 ≡ 0 = omega (arith, rec) in sum

-- parts of a reply's frames were added, and these are left
pub record Underway (bytes : List ℕ) (frames : List Frame) (slot size : ℕ) (old v : SeatView) (sides : Sides) (left : List Frame) : Type 0 where
  pub room : ℕ
  pub done : List (List LogLine)
  pub added : List LogEntry
  pub count : length done + room ≡ 8
  pub few : length left ≤ times room size
  pub rest : done ++ entries sides bytes slot (in_parts room size left) ≡ entries begun bytes slot (parts_of frames)
  pub are : AreParts v.seen old.number slot done added
  pub grows : Grows old v added

eighths : (n : ℕ) → n ≤ times 8 ((n + 7) / 8)
eighths n = by ((n + 7) / 8) (omega arith)
  where
    by : (part : ℕ) → n ≤ 8 * part → n ≤ times 8 part
    by part few = let sum : n ≤ part + (part + (part + (part + (part + (part + (part + (part + 0))))))) = omega (arith, few) in sum

pub sets_out : (bytes : List ℕ) (frames : List Frame) (slot size : ℕ) (v : SeatView) → size ≡ part_size (length frames) → Underway bytes frames slot size v v begun frames
sets_out bytes frames slot size v is = subst (λ (n : ℕ). Underway bytes frames slot n v v begun frames) (sym is) (record {
  room = 8;
  done = [];
  added = [];
  count = omega arith;
  few = few;
  rest = refl;
  are = tt;
  grows = grows_none v;
})
  where
    few : length frames ≤ times 8 (part_size (length frames))
    few = eighths (length frames)

-- what frames are cut into
parts_some : (room size : ℕ) (left : List Frame) → 0 < length left → in_parts (suc room) size left ≡ take size left ∷ in_parts room size (drop size left)
parts_some room size [] some = absurd (omega (arith, some))
parts_some room size (frame ∷ frames) some = refl

parts_none : (room size : ℕ) → in_parts room size [] ≡ []
parts_none zero size = refl
parts_none (suc room) size = refl

first_of : (sides : Sides) (bytes : List ℕ) (slot room size : ℕ) (left : List Frame) → size < length left
    → entries sides bytes slot (in_parts (suc (suc room)) size left)
    ≡ ended sides bytes slot (take size left) ∷ entries (after sides bytes (take size left)) bytes slot (in_parts (suc room) size (drop size left))
first_of sides bytes slot room size left more =
    ap (entries sides bytes slot) (parts_some (suc room) size left (omega (arith, more)) ∙ ap (λ (ps : List (List Frame)). take size left ∷ ps) (parts_some room size (drop size left) some))
    ∙ ap (λ (ps : List (List Frame)). ended sides bytes slot (take size left) ∷ entries (after sides bytes (take size left)) bytes slot ps) (sym (parts_some room size (drop size left) some))
  where
    some : 0 < length (drop size left)
    some = let long = length-drop size left in omega (arith, long, more)

last_of : (sides : Sides) (bytes : List ℕ) (slot room size : ℕ) (left : List Frame) → 0 < length left → length left ≤ size
    → entries sides bytes slot (in_parts (suc room) size left) ≡ (ended sides bytes slot left ++ rest_lines (after sides bytes left) slot) ∷ []
last_of sides bytes slot room size left some few =
    ap (entries sides bytes slot) (parts_some room size left some
    ∙ ap (λ (fs : List Frame). fs ∷ in_parts room size (drop size left)) (take_all size left few)
    ∙ ap (λ (fs : List Frame). left ∷ in_parts room size fs) (drop_all size left few)
    ∙ ap (λ (ps : List (List Frame)). left ∷ ps) (parts_none room size))

module _ (bytes : List ℕ) (frames : List Frame) (slot size : ℕ) (old v : SeatView) (sides : Sides) (left : List Frame) (u : Underway bytes frames slot size old v sides left) where
  -- a part more is added, behind which frames are left
  pub goes_on : (w : SeatView) → size < length left → AddsEntry (ended sides bytes slot (take size left)) slot v w
      → Underway bytes frames slot size old w (after sides bytes (take size left)) (drop size left)
  goes_on w more adds = by u.room u.count u.few u.rest
    where
      by : (room : ℕ) → length u.done + room ≡ 8 → length left ≤ times room size → u.done ++ entries sides bytes slot (in_parts room size left) ≡ entries begun bytes slot (parts_of frames)
          → Underway bytes frames slot size old w (after sides bytes (take size left)) (drop size left)
      by zero count few rest = let none : length left ≤ 0 = few in absurd (omega (arith, none, more))
      by (suc zero) count few rest = let one : length left ≤ size + 0 = few in absurd (omega (arith, one, more))
      by (suc (suc room)) count few rest = record {
        room = suc room;
        done = u.done ++ ended sides bytes slot (take size left) ∷ [];
        added = u.added ++ adds.entry ∷ [];
        count = let long = length-append u.done (ended sides bytes slot (take size left) ∷ []) in omega (arith, long, count);
        few = let long = length-drop size left in let all : length left ≤ size + times (suc room) size = few in omega (arith, long, all);
        rest = append_assoc u.done (ended sides bytes slot (take size left) ∷ []) (entries (after sides bytes (take size left)) bytes slot (in_parts (suc room) size (drop size left)))
            ∙ ap (λ (l : List (List LogLine)). u.done ++ l) (sym (first_of sides bytes slot room size left more)) ∙ rest;
        are = parts_put w.seen old.number slot u.done u.added (ended sides bytes slot (take size left)) adds.entry
            (parts_more v.seen w.seen old.number slot u.done u.added adds.grows.seen u.are)
            (subst (λ (n : ℕ). IsPart w.seen n slot (ended sides bytes slot (take size left)) adds.entry) u.grows.number adds.is);
        grows = grows_on old v w u.added (adds.entry ∷ []) u.grows adds.grows;
      }

  -- the same of what equals these
  pub goes_on_so : (w : SeatView) (lines : List LogLine) (part behind : List Frame) (new : Sides) → size < length left → part ≡ take size left → behind ≡ drop size left
      → lines ≡ ended sides bytes slot part → new ≡ after sides bytes part → AddsEntry lines slot v w → Underway bytes frames slot size old w new behind
  goes_on_so w lines part behind new more first rest gave holds adds =
      subst (λ (s : Sides). Underway bytes frames slot size old w s behind) (sym (holds ∙ ap (λ (fs : List Frame). after sides bytes fs) first))
      (subst (λ (fs : List Frame). Underway bytes frames slot size old w (after sides bytes (take size left)) fs) (sym rest)
      (goes_on w more (subst (λ (ls : List LogLine). AddsEntry ls slot v w) (gave ∙ ap (λ (fs : List Frame). ended sides bytes slot fs) first) adds)))

  -- no frame is left
  pub ends_bare : length left ≡ 0 → AddsAll bytes frames slot old v
  ends_bare none = record {
    added = u.added;
    are = subst (λ (ps : List (List LogLine)). AreParts v.seen old.number slot ps u.added) whole u.are;
    grows = u.grows;
  }
    where
      bare : (room : ℕ) (fs : List Frame) → length fs ≡ 0 → entries sides bytes slot (in_parts room size fs) ≡ []
      bare room [] e = ap (entries sides bytes slot) (parts_none room size)
      bare room (f ∷ fs) e = absurd (omega (arith, e))

      whole : u.done ≡ entries begun bytes slot (parts_of frames)
      whole = sym (append-nil u.done) ∙ ap (λ (l : List (List LogLine)). u.done ++ l) (sym (bare u.room left none)) ∙ u.rest

  -- the last part is added
  pub ends_full : (w : SeatView) → 0 < length left → length left ≤ size → AddsEntry (ended sides bytes slot left ++ rest_lines (after sides bytes left) slot) slot v w
      → AddsAll bytes frames slot old w
  ends_full w some fits_one adds = by u.room u.few u.rest
    where
      by : (room : ℕ) → length left ≤ times room size → u.done ++ entries sides bytes slot (in_parts room size left) ≡ entries begun bytes slot (parts_of frames) → AddsAll bytes frames slot old w
      by zero few rest = let none : length left ≤ 0 = few in absurd (omega (arith, none, some))
      by (suc room) few rest = record {
        added = u.added ++ adds.entry ∷ [];
        are = subst (λ (ps : List (List LogLine)). AreParts w.seen old.number slot ps (u.added ++ adds.entry ∷ []))
            (ap (λ (l : List (List LogLine)). u.done ++ l) (sym (last_of sides bytes slot room size left some fits_one)) ∙ rest)
            (parts_put w.seen old.number slot u.done u.added (ended sides bytes slot left ++ rest_lines (after sides bytes left) slot) adds.entry
            (parts_more v.seen w.seen old.number slot u.done u.added adds.grows.seen u.are)
            (subst (λ (n : ℕ). IsPart w.seen n slot (ended sides bytes slot left ++ rest_lines (after sides bytes left) slot) adds.entry) u.grows.number adds.is));
        grows = grows_on old v w u.added (adds.entry ∷ []) u.grows adds.grows;
      }

  -- memory is wanted: some parts were added
  pub ends_short : AddsSome bytes frames slot old v
  ends_short = record { parts = u.done; first = (entries sides bytes slot (in_parts u.room size left), u.rest); added = u.added; are = u.are; grows = u.grows }

  -- where frames are left, the slot has an entry left
  pub has_part : 0 < length left → HasNone old slot → length (of_container slot v.mine) < most_parts
  has_part some none = by u.room u.count u.few
    where
      long : length (of_container slot v.mine) ≡ length u.done
      long = ap (λ (es : List LogEntry). length (of_container slot es)) u.grows.mine
          ∙ ap (λ (es : List LogEntry). length es) (filter-append (λ (e : LogEntry). e.container == slot) old.mine u.added)
          ∙ ap (λ (es : List LogEntry). length (es ++ of_container slot u.added)) none
          ∙ ap (λ (es : List LogEntry). length es) (all_of old.number slot u.added (parts_own v.seen old.number slot u.done u.added u.are))
          ∙ as_many v.seen old.number slot u.done u.added u.are

      by : (room : ℕ) → length u.done + room ≡ 8 → length left ≤ times room size → length (of_container slot v.mine) < most_parts
      by zero count few = let none_left : length left ≤ 0 = few in absurd (omega (arith, none_left, some))
      by (suc room) count few = omega (arith, long, count)

  -- where frames are left behind a part, it has some
  pub some_size : size < length left → 0 < size
  some_size more = by size u.room u.few more
    where
      by : (n room : ℕ) → length left ≤ times room n → n < length left → 0 < n
      by zero room few less = let none = times_none room in absurd (omega (arith, few, less, none))
      by (suc n) room few less = omega arith

  pub may_still : (turns : Opened Book) → MayAddTo turns old slot → MayAddTo turns v slot
  may_still turns may = record { below = may.below; own = u.grows.number ∙ may.own }
