-- What a journal says of the workers' hands: their exchanges, and how often they looked, paused and read the clock.
use Rattle.std.specs.Prelude.{◌≡◌, ◌⊎◌, ℕ, ◌+◌, ◌*◌, ◌-◌, ◌^◌, min, Bool, true, false, if◌then◌else◌, ◌==◌, List, [], ◌∷◌, ◌++◌, Option, Some, None}
use Rattle.tree_base.specs.Limits.{before_poll, while_idle}
use Rattle.engine_types.specs.declared.Entry.{Entry}
use Rattle.engine_types.specs.declared.Exchange.{Exchange}
use Rattle.engine_types.specs.declared.LateWhy.{LateWhy}
use Rattle.engine_types.specs.declared.Outcome.{Outcome}
use Rattle.run_model.specs.Journals.{Setup}
use Rattle.run_model.specs.Requests.{request_out}

-- the exchanges that a journal has under a worker's number, oldest first; those of the observation are worker 0's
abbrev pub exchanges_of : Setup → List Entry → ℕ → List Exchange
exchanges_of setup [] w = []
exchanges_of setup (Entry.Seen observation ∷ past) w =
    if w == 0 then exchanges_of setup past w ++ observation.exchanges else exchanges_of setup past w
exchanges_of setup (Entry.Ended v outcome ∷ past) w =
    if v == w then exchanges_of setup past w
    ++ record { request = request_out setup past v; outcome = outcome } ∷ []
    else exchanges_of setup past w
exchanges_of setup (_ ∷ past) w = exchanges_of setup past w

-- want of memory
abbrev pub is_memory : Outcome → Bool
is_memory Outcome.Memory = true
is_memory _ = false

-- a log begins with an exchange, and the rest of it is such; or it lacks the exchange, which met want of memory
abbrev pub BeginsWith : Exchange → (List Exchange → Type 0) → List Exchange → Type 0
BeginsWith exchange Rest [] = (is_memory exchange.outcome ≡ true) × Rest []
BeginsWith exchange Rest (first ∷ log) =
    ((first ≡ exchange) × Rest log) ⊎ ((is_memory exchange.outcome ≡ true) × Rest (first ∷ log))

-- a log of these exchanges, in their order, where those that met want of memory may be missing
abbrev pub IsLogOf : List Exchange → List Exchange → Type 0
IsLogOf [] log = log ≡ []
IsLogOf (exchange ∷ rest) log = BeginsWith exchange (IsLogOf rest) log

-- a hand's log grew by these exchanges
pub record GrowsBy (exchanges old new : List Exchange) : Type 0 where
  pub more : List Exchange
  pub grown : new ≡ old ++ more
  pub are : IsLogOf exchanges more

-- the worker of an entry that answers an ask: a Claim, Poll, Idle, Leave, Short, or a Late with Entries
abbrev pub asker : Entry → Option ℕ
asker (Entry.Claim w a) = Some w
asker (Entry.Poll w s) = Some w
asker (Entry.Idle w) = Some w
asker (Entry.Leave w) = Some w
asker (Entry.Short w) = Some w
asker (Entry.Late w LateWhy.Entries) = Some w
asker _ = None

-- whether an entry answers an ask of a worker
abbrev pub is_ask_of : ℕ → Entry → Bool
is_ask_of w entry = of (asker entry)
  where
    of : Option ℕ → Bool
    of (Some v) = v == w
    of None = false

-- how often a worker asked: as often as its hand looked whether it is to stop
abbrev pub asks : List Entry → ℕ → ℕ
asks [] w = 0
asks (entry ∷ past) w = if is_ask_of w entry then asks past w + 1 else asks past w

-- for how many milliseconds a worker's hand paused: 250 for each Idle, 500 for each Poll
abbrev pub pauses : List Entry → ℕ → ℕ
pauses [] w = 0
pauses (Entry.Idle v ∷ past) w = if v == w then pauses past w + while_idle else pauses past w
pauses (Entry.Poll v s ∷ past) w = if v == w then pauses past w + before_poll else pauses past w
pauses (_ ∷ past) w = pauses past w

-- whether a worker was asked to stop
abbrev pub was_stopped : List Entry → ℕ → Bool
was_stopped [] w = false
was_stopped (Entry.Stop v ∷ past) w = if v == w then true else was_stopped past w
was_stopped (_ ∷ past) w = was_stopped past w

-- how often a worker asked before it was asked to stop: as often as its hand read the clock, where there is a deadline
abbrev pub asks_unstopped : List Entry → ℕ → ℕ
asks_unstopped [] w = 0
asks_unstopped (entry ∷ past) w =
    if was_stopped past w then asks_unstopped past w
    else if is_ask_of w entry then asks_unstopped past w + 1 else asks_unstopped past w

-- the reading at which a worker met the deadline
abbrev pub late_reading : List Entry → ℕ → Option ℕ
late_reading [] w = None
late_reading (Entry.Late v (LateWhy.Deadline reading) ∷ past) w =
    if v == w then Some reading else late_reading past w
late_reading (_ ∷ past) w = late_reading past w

-- the deadline of a run whose first reading is this: so many seconds later, as far as 64 bits tell
abbrev pub deadline_after : ℕ → ℕ → ℕ
deadline_after first seconds = min (first + 1000 * seconds) (2 ^ 64 - 1)
