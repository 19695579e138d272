-- Which journals are legal: each entry may stand after the list before it.
use Rattle.std.specs.Prelude.{◌≡◌, ◌⊎◌, ℕ, ◌<◌, ◌≤◌, Bool, true, false, not, if◌then◌else◌, ◌&&◌, ◌||◌, ◌==◌, nat_le, List, [], ◌∷◌, Option, Some, None, length, find, is_some, IsSomeAnd}
use Rattle.std.specs.List.{list_any, list_all}
use Rattle.engine_types.specs.declared.Aim.{Aim}
use Rattle.tree_base.specs.Limits.{most_entries}
use Rattle.engine_types.specs.declared.Declared.{Declared}
use Rattle.engine_types.specs.declared.Entry.{Entry}
use Rattle.engine_types.specs.declared.Exchange.{Exchange}
use Rattle.engine_types.specs.declared.LateWhy.{LateWhy}
use Rattle.engine_types.specs.declared.Observed.{Observed}
use Rattle.engine_types.specs.declared.Seen.{Seen}
use Rattle.engine_types.specs.declared.SeenEnd.{SeenEnd}
use Rattle.engine_types.specs.declared.SeenFault.{SeenFault}
use Rattle.run_model.specs.Conditions.{is_allowed, is_watched}
use Rattle.run_model.specs.Journals.{Nothing, Setup, has_left, has_stopped, holding, is_ending, is_open, is_watch_of, polls, seen_in}
use Rattle.run_model.specs.Observation.{Asks, Ends, Onward, Strays, is_asked, observed}
use Rattle.run_model.specs.Plans.{Basis, action_count, is_too_long}
use Rattle.run_model.specs.Numbers.{numbers_from, places}

-- what an ask is answered: the journal is full, there is nothing left, an action, a poll of a slot, or there is nothing to do yet
pub data Decision : Type 0 where
  Full : Decision
  Go : Decision
  Take : ℕ → Decision
  Look : ℕ → Decision
  Pause : Decision

-- the least action that is allowed
abbrev pub next_action : Setup → List Entry → Option ℕ
next_action setup past = find (is_allowed setup past) (places setup.actions)

-- the numbers of the workers
abbrev pub workers : Setup → List ℕ
workers setup = numbers_from 0 setup.limits.workers

-- whether a poll of a slot is out
abbrev pub is_looked_at : Setup → List Entry → ℕ → Bool
is_looked_at setup past s = list_any (λ w. is_watch_of s (holding past w)) (workers setup)

-- whether a slot may be polled: it is watched, and no poll of it is out
abbrev pub may_poll : Setup → List Entry → ℕ → Bool
may_poll setup past s = is_watched setup past s && not (is_looked_at setup past s)

-- whether a slot was polled at most as often as each that may be polled
abbrev pub has_fewest_polls : Setup → List Entry → ℕ → Bool
has_fewest_polls setup past s =
    list_all (λ t. not (may_poll setup past t) || nat_le (polls past s) (polls past t))
    (places setup.declared.slots)

-- the slot to poll next: of those that may be polled one with the fewest polls, and of these the least
abbrev pub next_poll : Setup → List Entry → Option ℕ
next_poll setup past =
    find (λ s. may_poll setup past s && has_fewest_polls setup past s) (places setup.declared.slots)

-- whether another worker's permit is out
abbrev pub is_other_out : Setup → List Entry → ℕ → Bool
is_other_out setup past w = list_any (λ v. not (v == w) && is_open (holding past v)) (workers setup)

-- what an ask is answered, in this order: the journal is full; the run is ending; an action is allowed; a slot may be polled;
-- another worker's permit is out; nothing of these
abbrev pub answer_to : Bool → Bool → Option ℕ → Option ℕ → Bool → Decision
answer_to true ending action slot other_out = Full
answer_to false true action slot other_out = Go
answer_to false false (Some a) slot other_out = Take a
answer_to false false None (Some s) other_out = Look s
answer_to false false None None true = Pause
answer_to false false None None false = Go

-- what a worker's ask is answered after these entries
abbrev pub decision : Setup → List Entry → ℕ → Decision
decision setup past w =
    answer_to (nat_le most_entries (length past)) (is_ending past) (next_action setup past)
    (next_poll setup past) (is_other_out setup past w)

-- a worker may call: the observation ended well, the worker is one of the run's, holds nothing and hasn't left
pub record IsReady (setup : Setup) (past : List Entry) (w : ℕ) : Type 0 where
  pub begun : is_some (seen_in past) ≡ true
  pub below : w < setup.limits.workers
  pub idle : holding past w ≡ Nothing
  pub here : has_left past w ≡ false

-- the end of an observation that its exchanges give: a plan that is too long is its last fault
abbrev pub whole_end : Declared → Aim → SeenEnd → SeenEnd
whole_end declared aim (SeenEnd.Good seen) =
    if is_too_long basis then SeenEnd.Bad (SeenFault.TooManyActions (action_count basis))
    else SeenEnd.Good seen
  where
    basis : Basis
    basis = record { declared = declared; seen = seen; aim = aim }
whole_end declared aim (SeenEnd.Bad fault) = SeenEnd.Bad fault

-- the end that an observation of these exchanges has; none where exchanges are missing, or aren't those of an observation
abbrev pub seen_end : Declared → Aim → List Exchange → Option SeenEnd
seen_end declared aim exchanges = of (observed declared aim.purpose exchanges)
  where
    of : Onward → Option SeenEnd
    of (Ends end) = Some (whole_end declared aim end)
    of (Asks request) = None
    of Strays = None

-- an observation: it ended as its exchanges say, or for want of memory after any of them
abbrev pub IsObserved : Declared → Aim → Observed → Type 0
IsObserved declared aim observation =
    (seen_end declared aim observation.exchanges ≡ Some observation.end)
    ⊎ ((observation.end ≡ SeenEnd.Bad SeenFault.Memory)
    × (is_asked (observed declared aim.purpose observation.exchanges) ≡ true))

-- where the observation ended well, it saw this
abbrev pub Saw : SeenEnd → Seen → Type 0
Saw (SeenEnd.Good seen) expected = seen ≡ expected
Saw (SeenEnd.Bad fault) expected = Unit {0}

-- an entry may stand after these
abbrev pub MayStand : Aim → Setup → List Entry → Entry → Type 0
MayStand aim setup past (Entry.Seen observation) =
    (past ≡ []) × IsObserved setup.declared aim observation × Saw observation.end setup.seen
MayStand aim setup past (Entry.Claim w a) = IsReady setup past w × (decision setup past w ≡ Take a)
MayStand aim setup past (Entry.Poll w s) = IsReady setup past w × (decision setup past w ≡ Look s)
MayStand aim setup past (Entry.Ended w outcome) = is_open (holding past w) ≡ true
MayStand aim setup past (Entry.Idle w) = IsReady setup past w × (decision setup past w ≡ Pause)
MayStand aim setup past (Entry.Leave w) = IsReady setup past w × (decision setup past w ≡ Go)
MayStand aim setup past (Entry.Stop w) = IsReady setup past w × (has_stopped past w ≡ false)
MayStand aim setup past (Entry.Late w (LateWhy.Deadline reading)) =
    IsReady setup past w × (has_stopped past w ≡ false)
    × IsSomeAnd setup.limits.deadline (λ deadline. deadline ≤ reading)
MayStand aim setup past (Entry.Late w LateWhy.Entries) =
    IsReady setup past w × (decision setup past w ≡ Full)
MayStand aim setup past (Entry.Short w) = IsReady setup past w × (length past < most_entries)

-- a legal journal of a run, newest entry first: each entry may stand after those before it
abbrev pub IsLegal : Aim → Setup → List Entry → Type 0
IsLegal aim setup [] = Unit {0}
IsLegal aim setup (entry ∷ past) = IsLegal aim setup past × MayStand aim setup past entry
