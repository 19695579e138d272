-- The entries of one worker, and what they tell of it.
use Rattle.std.specs.Prelude.{◌≡◌, ℕ, ◌+◌, ◌≤◌, if◌then◌else◌, ◌==◌, List, [], ◌∷◌, ◌++◌, filter, length, reverse, unwrap_or}
use Rattle.engine_types.specs.declared.Aim.{Aim}
use Rattle.tree_base.specs.Limits.{most_entries, most_workers}
use Rattle.engine_types.specs.declared.Entry.{Entry}
use Rattle.engine_types.specs.declared.Request.{Request}
use Rattle.run_model.specs.Journals.{Setup, has_left, has_stopped, holding}
use Rattle.run_model.specs.Legal.{IsLegal}
use Rattle.run_model.specs.Logs.{asks, asks_unstopped, exchanges_of, late_reading, pauses, was_stopped}
use Rattle.run_model.specs.Requests.{action_request, poll_request, request_out}

-- the worker under whose number an entry stands; the observation is worker 0's
abbrev pub worker_of : Entry → ℕ
worker_of (Entry.Seen observation) = 0
worker_of (Entry.Claim w a) = w
worker_of (Entry.Poll w s) = w
worker_of (Entry.Ended w outcome) = w
worker_of (Entry.Idle w) = w
worker_of (Entry.Leave w) = w
worker_of (Entry.Stop w) = w
worker_of (Entry.Late w why) = w
worker_of (Entry.Short w) = w

-- the entries of a worker, in their order
abbrev pub own_of : ℕ → List Entry → List Entry
own_of w es = filter (λ e. worker_of e == w) es

-- the request that a worker was granted last, as it was where it was granted; a listing stands where it holds no permit
abbrev pub granted : Setup → List Entry → ℕ → Request
granted setup [] w = Request.ListContainers setup.declared.project
granted setup (Entry.Claim v a ∷ past) w =
    if v == w then unwrap_or (action_request setup past a) (Request.ListContainers setup.declared.project)
    else granted setup past w
granted setup (Entry.Poll v s ∷ past) w =
    if v == w then unwrap_or (poll_request setup past s) (Request.ListContainers setup.declared.project)
    else granted setup past w
granted setup (Entry.Ended v outcome ∷ past) w =
    if v == w then Request.ListContainers setup.declared.project else granted setup past w
granted setup (_ ∷ past) w = granted setup past w

-- what a worker holds, whether it left, stopped or was late, and how often it asked and paused: its own entries tell
pub record OwnEntriesTell : Type 0 where
  pub holds : (past : List Entry) (w : ℕ) → holding (own_of w past) w ≡ holding past w
  pub left : (past : List Entry) (w : ℕ) → has_left (own_of w past) w ≡ has_left past w
  pub stopped : (past : List Entry) (w : ℕ) → has_stopped (own_of w past) w ≡ has_stopped past w
  pub asks : (past : List Entry) (w : ℕ) → asks (own_of w past) w ≡ asks past w
  pub pauses : (past : List Entry) (w : ℕ) → pauses (own_of w past) w ≡ pauses past w
  pub asked_to_stop : (past : List Entry) (w : ℕ) → was_stopped (own_of w past) w ≡ was_stopped past w
  pub unstopped : (past : List Entry) (w : ℕ) → asks_unstopped (own_of w past) w ≡ asks_unstopped past w
  pub late : (past : List Entry) (w : ℕ) → late_reading (own_of w past) w ≡ late_reading past w

-- entries of others add nothing to a worker's exchanges
abbrev pub OthersAddNothing : Type 0
OthersAddNothing = (setup : Setup) (more past : List Entry) (w : ℕ) → own_of w more ≡ []
    → exchanges_of setup (more ++ past) w ≡ exchanges_of setup past w

-- in a legal journal the request of an open permit is the one that it was granted with, whatever others entered since
abbrev pub RequestsStay : Type 0
RequestsStay = (aim : Aim) (setup : Setup) (past : List Entry) (w : ℕ) → IsLegal aim setup past
    → request_out setup past w ≡ granted setup past w

-- what a worker with all its entries has seen tells its exchanges as the whole journal does
abbrev pub SeenOnesSuffice : Type 0
SeenOnesSuffice = (setup : Setup) (begun seen more : List Entry) (w : ℕ)
    → own_of w (seen ++ more) ≡ own_of w seen
    → exchanges_of setup (reverse (begun ++ seen ++ more)) w ≡ exchanges_of setup (reverse (begun ++ seen)) w

-- no legal journal of at most 16 workers has more than 48 entries beyond the greatest number before an ask
abbrev pub JournalsAreShort : Type 0
JournalsAreShort = (aim : Aim) (setup : Setup) (past : List Entry) → IsLegal aim setup past
    → setup.limits.workers ≤ most_workers → length past ≤ most_entries + 48
