-- How a reader stands in the body that it is fed.
use Rattle.std.specs.Prelude.{◌≡◌, ℕ, ◌+◌, ◌<◌, ◌≤◌, ◌^◌, List, [], ◌∷◌, ◌++◌, length, Option, Some, None, Result, Ok, Err, if◌then◌else◌, nat_lt}
use Rattle.event_watch.specs.Events.{Told, behind, events, line_told, only, told_by}
use Rattle.tree_base.specs.Limits.{most_event_bytes}
use Rattle.event_watch.specs.declared.event.Event.{Event}
use Rattle.event_watch.specs.declared.event.EventRefusal.{EventRefusal}
use Rattle.event_watch.specs.declared.event.LineFault.{LineFault}
use Rattle.event_watch.specs.declared.open_line.OpenLine.{OpenLine}
use Rattle.event_watch.specs.declared.reader.EventReader.{EventReader}
use Rattle.response_rules.specs.Lines.{lines}

-- lines with bytes before the first
abbrev pub onto_line : List ℕ → List (List ℕ) → List (List ℕ)
onto_line bytes [] = bytes ∷ []
onto_line bytes (line ∷ more) = (bytes ++ line) ∷ more

-- bytes that end no line: what is read behind them belongs to their line
abbrev pub IsPart : List ℕ → Type 0
IsPart bytes = (more : List ℕ) → lines (bytes ++ more) ≡ onto_line bytes (lines more)

-- what is told from the open line on, with these bytes behind it
abbrev pub goes_on : Option LineFault → ℕ → List ℕ → List ℕ → Told
goes_on (Some fault) at bytes more = only (Some fault)
goes_on None at bytes more = told_by at (lines (bytes ++ more))

-- with these events before the open line, a body tells what it tells with any bytes to come, and so
-- many bytes stand before those
pub record Stands (line : OpenLine) (before : List Event) (body : List ℕ → Told) (count : ℕ)
    : Type 0 where
  pub whole : (more : List ℕ) → body more ≡ behind before (goes_on line.fault line.at line.bytes more)
  pub is_part : IsPart line.bytes
  pub is_short : line.fault ≡ None → length line.bytes ≤ most_event_bytes
  pub is_placed : line.fault ≡ None → line.at + length line.bytes ≡ count

-- a list begins with another
abbrev pub Begins : List Event → List Event → Type 0
Begins old new = (more : List Event) × (new ≡ old ++ more)

-- bytes were read, however what was read before told a body
abbrev pub StepsBy : OpenLine → List Event → List ℕ → OpenLine → List Event → Type 0
StepsBy old ready piece new now_ready =
    (body : List ℕ → Told) (count : ℕ) (before : List Event) → count + length piece < 2 ^ 64
    → Stands old (before ++ ready) body count
    → Stands new (before ++ now_ready) (λ more. body (piece ++ more)) (count + length piece)

-- an open line with one more byte
abbrev pub longer : OpenLine → ℕ → OpenLine
longer line byte = record {
  bytes = line.bytes ++ byte ∷ [];
  at = line.at;
  fault =
      if nat_lt most_event_bytes (length (line.bytes ++ byte ∷ []))
      then Some (LineFault.TooLong line.at) else line.fault;
}

-- an open line was ended: its events stand last and the next one is open, or it is bad
abbrev pub EndsAs : OpenLine → List Event → OpenLine → List Event → Option (List Event) → Type 0
EndsAs old ready new now_ready (Some here) =
    (now_ready ≡ ready ++ here) × (new.bytes ≡ []) × (new.fault ≡ old.fault)
    × (old.at + length old.bytes + 1 < 2 ^ 64 → new.at ≡ old.at + length old.bytes + 1)
EndsAs old ready new now_ready None =
    (now_ready ≡ ready) × (new.bytes ≡ old.bytes) × (new.fault ≡ Some (LineFault.BadEvent old.at))

-- the same, by what the open line tells
abbrev pub EndsBy : OpenLine → List Event → OpenLine → List Event → Type 0
EndsBy old ready new now_ready = EndsAs old ready new now_ready (line_told old.bytes)

-- the events that wait to be taken
abbrev pub waiting : EventReader → List Event
waiting reader = reader.ready.items

-- a reader was fed these bytes, and these of their events were taken
abbrev pub HasRead : EventReader → List ℕ → List Event → Type 0
HasRead reader fed taken =
    Stands reader.line (taken ++ waiting reader) (λ more. events (fed ++ more)) (length fed)

-- the refusal of a bad line
abbrev pub refusal_of : LineFault → EventRefusal
refusal_of (LineFault.BadEvent at) = EventRefusal.BadEvent at
refusal_of (LineFault.TooLong at) = EventRefusal.TooLong at

-- a piece was fed, with which these bytes are fed: the answer is their first bad line; for want of
-- memory the reader is where it was
abbrev pub FeedsBy : EventReader → List ℕ → List Event → List ℕ → Result Unit EventRefusal → Type 0
FeedsBy reader fed taken all_fed (Ok done) =
    HasRead reader all_fed taken × ((events all_fed).fault ≡ None)
FeedsBy reader fed taken all_fed (Err EventRefusal.Memory) = HasRead reader fed taken
FeedsBy reader fed taken all_fed (Err (EventRefusal.BadEvent at)) =
    HasRead reader all_fed taken × ((events all_fed).fault ≡ Some (LineFault.BadEvent at))
FeedsBy reader fed taken all_fed (Err (EventRefusal.TooLong at)) =
    HasRead reader all_fed taken × ((events all_fed).fault ≡ Some (LineFault.TooLong at))
