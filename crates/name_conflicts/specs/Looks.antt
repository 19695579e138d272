-- How a hand looks for what a create would make.
use Rattle.std.specs.Prelude.{◌≡◌, ◌⊎◌, ℕ, zero, suc, ◌+◌, ◌<◌, Bool, true, false, nat_le, if◌then◌else◌, List, [], ◌∷◌, ◌++◌, Option, Some, None}
use Rattle.engine_types.specs.declared.Exchange.{Exchange}
use Rattle.engine_types.specs.declared.Request.{Request}
use Rattle.name_conflicts.specs.Conflicts.{listing_for, look_end}
use Rattle.name_conflicts.specs.declared.look_end.LookEnd.{LookEnd}
use Rattle.outside_api.specs.Clock.{Clock, read_at}

-- how many rounds there are at most
abbrev pub most_looks : ℕ
most_looks = 8

-- how long each round waits at first, in milliseconds
abbrev pub before_look : ℕ
before_look = 250

-- the worker was asked to stop
abbrev pub is_stopped : Option LookEnd → Bool
is_stopped (Some LookEnd.Stopped) = true
is_stopped _ = false

-- the deadline was met
abbrev pub is_late : Option LookEnd → Bool
is_late (Some LookEnd.Late) = true
is_late _ = false

-- a reading is at or past the deadline, where there is one
abbrev pub is_past : Option ℕ → ℕ → Bool
is_past None reading = false
is_past (Some deadline) reading = nat_le deadline reading

-- how often a clock is read, where there is a deadline
abbrev pub one_reading : Option ℕ → ℕ
one_reading None = 0
one_reading (Some deadline) = 1

-- a hand asked for the listing, and looking ended by what came of it, or goes on; or there was no memory for that
abbrev pub Asks : List ℕ → Request → Option LookEnd → List Exchange → Type 0
Asks project request found made =
    ((made ≡ []) × (found ≡ Some LookEnd.Memory))
    ⊎ ((exchange : Exchange) × (made ≡ exchange ∷ [])
    × (exchange.request ≡ listing_for project request)
    × (look_end project request exchange.outcome ≡ found))

-- the log of the hand grew by what it asked so
abbrev pub Sends : List ℕ → Request → Option LookEnd → List Exchange → List Exchange → Type 0
Sends project request found old new =
    (made : List Exchange) × (new ≡ old ++ made) × Asks project request found made

-- the clock was read once, behind so many exchanges, where there is a deadline
abbrev pub ReadsOnce : Option ℕ → ℕ → Clock → Clock → Type 0
ReadsOnce None made old new = new ≡ old
ReadsOnce (Some deadline) made old new = new ≡ read_at made old new.last

-- what a round exchanged: nothing where the hand is to stop or is late
abbrev pub Exchanged : List ℕ → Request → Option LookEnd → List Exchange → Type 0
Exchanged project request (Some LookEnd.Stopped) made = made ≡ []
Exchanged project request (Some LookEnd.Late) made = made ≡ []
Exchanged project request found made = Asks project request found made

-- one round, by the log and the clock of the hand before and after it: it paused, looked whether to stop, read its clock where
-- there is a deadline, and asked for the listing; so it ended looking, or looking goes on
pub record IsRound (project : List ℕ) (request : Request) (deadline : Option ℕ) (found : Option LookEnd)
    (log_old log_new : List Exchange) (old new : Clock) : Type 0 where
  pub made : List Exchange
  pub log : log_new ≡ log_old ++ made
  pub exchanged : Exchanged project request found made
  pub paused : new.paused ≡ old.paused + before_look
  pub looks : new.looks ≡ old.looks + 1
  pub stops : new.yeses ≡ old.yeses + (if is_stopped found then 1 else 0)
  pub readings : new.readings
      ≡ old.readings + (if is_stopped found then 0 else one_reading deadline)
  pub late : is_late found ≡ (if is_stopped found then false else is_past deadline new.last)

-- so many rounds one after another, with which looking goes on
abbrev pub GoesOn : List ℕ → Request → Option ℕ → ℕ → List Exchange → List Exchange → Clock → Clock
    → Type 0
GoesOn project request deadline zero log_old log_new old new = (log_new ≡ log_old) × (new ≡ old)
GoesOn project request deadline (suc n) log_old log_new old new =
    (log : List Exchange) × (clock : Clock) × GoesOn project request deadline n log_old log old clock
    × IsRound project request deadline None log log_new clock new

-- a hand looked for what a create would make, and that ended so: by a round behind fewer than 8 with which it went on, or, with
-- nothing found, behind 8 of them
abbrev pub HasLooked : List ℕ → Request → Option ℕ → LookEnd → List Exchange → List Exchange → Clock
    → Clock → Type 0
HasLooked project request deadline LookEnd.Missed log_old log_new old new =
    GoesOn project request deadline most_looks log_old log_new old new
HasLooked project request deadline end log_old log_new old new =
    (rounds : ℕ) × (rounds < most_looks) × (log : List Exchange) × (clock : Clock)
    × GoesOn project request deadline rounds log_old log old clock
    × IsRound project request deadline (Some end) log log_new clock new
