-- The members of a crew that fetches logs: what they begin with, and what they leave.
use Rattle.std.specs.Prelude.{◌≡◌, ℕ, ◌+◌, nat_lt, if◌then◌else◌, ◌||◌, false, List, [], ◌∷◌, ◌++◌, Option, Some, None}
use mathlib.Core.List.{IsPrefix}
use Rattle.turn_ledger.specs.Own.{Each, own}
use Rattle.turn_ledger.specs.Seats.{IsOf, Opened, Sitting}
use Rattle.log_book.specs.Books.{Book, opening}
use Rattle.log_book.specs.declared.entries.LogEntry.{LogEntry}
use Rattle.logs_run.specs.declared.fetching.Fault.{Fault}
use Rattle.logs_run.specs.declared.fetching.Met.{Met}

-- a seat in a book's turns
abbrev pub Seat : Type 0
Seat = Sitting Book LogEntry

-- a seat of these turns that took none in and may make none
pub record IsPlain (turns : Opened Book) (seat : Seat) : Type 0 where
  pub of : IsOf turns seat
  pub joined : seat.view.joined ≡ []
  pub left : seat.view.left ≡ 0

-- such seats, with the numbers from n on
abbrev pub AreLined : Opened Book → ℕ → List Seat → Type 0
AreLined turns n [] = Unit {0}
AreLined turns n (seat ∷ seats) =
    IsPlain turns seat × (seat.view.number ≡ n) × AreLined turns (n + 1) seats

-- no seat has added anything
abbrev pub AreFresh : List Seat → Type 0
AreFresh seats = Each (λ (seat : Seat). seat.view.mine ≡ []) seats

-- a worker that has met nothing
abbrev pub calm : Met
calm = record { short = false; fault = None }

-- no worker has met anything
abbrev pub AreCalm : List Met → Type 0
AreCalm mets = Each (λ (met : Met). met ≡ calm) mets

-- of two faults that of the lesser slot
abbrev pub lesser : Option Fault → Option Fault → Option Fault
lesser None other = other
lesser (Some one) None = Some one
lesser (Some one) (Some other) = if nat_lt other.slot one.slot then Some other else Some one

-- what two workers met together
abbrev pub both : Met → Met → Met
both one other =
    record { short = one.short || other.short; fault = lesser one.fault other.fault }

-- what workers met together, one of them first
abbrev pub met_with : Met → List Met → Met
met_with met [] = met
met_with met (other ∷ others) = met_with (both met other) others

-- what workers met together
abbrev pub met_by : List Met → Met
met_by [] = calm
met_by (met ∷ mets) = met_with met mets

-- a seat's number and the entries of its calls
abbrev pub calls_of : Seat → ℕ × List LogEntry
calls_of seat = (seat.view.number, seat.view.mine)

-- the turns of these seats have ended: the book has one history, which begins with what each has seen, and has of each number what
-- its seat has
pub record HaveEnded (old : Book) (seats : List Seat) (new : Book) : Type 0 where
  pub history : List LogEntry
  pub entries : new.entries ≡ old.entries ++ history
  pub origin : opening new ≡ opening old
  pub begins : Each (λ (seat : Seat). IsPrefix seat.view.seen history) seats
  pub mine : Each (λ (seat : Seat). own (λ e. e.worker) seat.view.number history ≡ seat.view.mine) seats
