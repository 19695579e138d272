-- The members of a crew: what they begin with, and what they leave.
use Rattle.std.specs.Prelude.{◌≡◌, ℕ, ◌+◌, List, [], ◌∷◌, ◌++◌, Option}
use Rattle.engine_types.specs.declared.Entry.{Entry}
use Rattle.engine_types.specs.declared.Exchange.{Exchange}
use Rattle.outside_api.specs.Accounts.{AreCaused}
use Rattle.outside_api.specs.Clock.{Clock}
use Rattle.run_model.specs.Logs.{GrowsBy, exchanges_of}
use Rattle.journal_laws.specs.Courses.{Course, entries, setup_of}
use Rattle.ledger_run.specs.Tellings.{Telling, account_in}
use Rattle.ledger_run.specs.Timing.{HasRoom}
use Rattle.ledger_run.specs.Turns.{with_more}
use Rattle.turn_ledger.specs.Own.{Each}
use Rattle.turn_ledger.specs.Seats.{IsOf, Opened, Sitting}
use Rattle.ledger_turns.specs.Calls.{opening}
use Rattle.worker_pool.specs.Seats.{GoesOnTo, IsTimedBy, IsWorker}

-- a seat among those of a run
abbrev pub Seat : Type 0
Seat = Sitting Course Entry

-- its seat is a worker's that has made no call, and its hand's clock has room
pub record IsReady (turns : Opened Course) (seat : Seat) (clock : Clock) : Type 0 where
  pub worker : IsWorker turns seat
  pub fresh : seat.view.mine ≡ []
  pub room : HasRoom clock

-- a seat of these turns that took none in and may make none
pub record IsPlain (turns : Opened Course) (seat : Seat) : Type 0 where
  pub of : IsOf turns seat
  pub joined : seat.view.joined ≡ []
  pub left : seat.view.left ≡ 0

-- such seats, with the numbers from n on
abbrev pub AreLined : Opened Course → ℕ → List Seat → Type 0
AreLined turns n [] = Unit {0}
AreLined turns n (seat ∷ seats) =
    IsPlain turns seat × (seat.view.number ≡ n) × AreLined turns (n + 1) seats

-- a seat's number and the entries of its calls
abbrev pub calls_of : Seat → ℕ × List Entry
calls_of seat = (seat.view.number, seat.view.mine)

-- no seat has made a call
abbrev pub AreFresh : List Seat → Type 0
AreFresh seats = Each (λ (seat : Seat). seat.view.mine ≡ []) seats

-- a fact of each place of two lists that are as long, from place n on
abbrev pub EachPair : {X Y : Type 0} → (ℕ → X → Y → Type 0) → ℕ → List X → List Y → Type 0
EachPair Fact n [] [] = Unit {0}
EachPair Fact n (x ∷ xs) (y ∷ ys) = Fact n x y × EachPair Fact (n + 1) xs ys
EachPair Fact n [] (y ∷ ys) = ⊥
EachPair Fact n (x ∷ xs) [] = ⊥

-- the turns of these seats have ended: the ledger has what it was opened with and then one history, which begins with what each
-- has seen, and has of each number what its seat has
pub record HaveEnded (old : Course) (seats : List Seat) (new : Course) : Type 0 where
  pub history : List Entry
  pub journal : new.journal ≡ old.journal ++ history
  pub origin : opening new ≡ opening old
  pub each : Each (λ (seat : Seat). GoesOnTo seat.view history) seats

-- a run went on from another one: it is the same but for a longer journal
pub record ComesTo (old new : Course) : Type 0 where
  pub history : List Entry
  pub come : new ≡ with_more old history

-- what a worker's hand did while the run went on: its log has the exchanges that the journal has more of the worker, each has its
-- cause in itself, and its clock is by the worker's entries
pub record HasDone (w : ℕ) (deadline : Option ℕ) (old new : Course)
    (before after : Telling) : Type 0 where
  pub made : List Exchange
  pub are : exchanges_of (setup_of new) (entries new) w
      ≡ exchanges_of (setup_of old) (entries old) w ++ made
  pub log : GrowsBy made before.log after.log
  pub caused : AreCaused made (account_in before) (account_in after)
  pub timed : IsTimedBy w deadline (entries new) before.clock after.clock
