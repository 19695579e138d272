-- What a journal says of its workers and actions, newest entry first: the list before an entry is the tail behind it.
use Rattle.std.specs.Prelude.{ℕ, ◌+◌, Bool, true, false, if◌then◌else◌, ◌==◌, List, [], ◌∷◌, Option, Some, None}
use Rattle.engine_types.specs.declared.Action.{Action}
use Rattle.engine_types.specs.declared.ActionKind.{ActionKind}
use Rattle.engine_types.specs.declared.Declared.{Declared}
use Rattle.engine_types.specs.declared.Entry.{Entry}
use Rattle.engine_types.specs.declared.LateWhy.{LateWhy}
use Rattle.engine_types.specs.declared.Outcome.{Outcome}
use Rattle.engine_types.specs.declared.Reply.{Reply}
use Rattle.engine_types.specs.declared.RunLimits.{RunLimits}
use Rattle.engine_types.specs.declared.Seen.{Seen}
use Rattle.engine_types.specs.declared.SeenEnd.{SeenEnd}
use Rattle.run_model.specs.Plans.{kind_of}

-- what a run is of: the declared set, what was seen, the plan's actions with their needs, and the limits
pub record Setup : Type 0 where
  pub declared : Declared
  pub seen : Seen
  pub actions : List Action
  pub limits : RunLimits

-- what a worker holds: nothing, a permit for an action, or a permit to poll a slot
pub data Holding : Type 0 where
  Nothing : Holding
  Work : ℕ → Holding
  Watch : ℕ → Holding

-- what a worker holds after these entries
abbrev pub holding : List Entry → ℕ → Holding
holding [] w = Nothing
holding (Entry.Claim v a ∷ past) w = if v == w then Work a else holding past w
holding (Entry.Poll v s ∷ past) w = if v == w then Watch s else holding past w
holding (Entry.Ended v outcome ∷ past) w = if v == w then Nothing else holding past w
holding (_ ∷ past) w = holding past w

-- whether a permit is out
abbrev pub is_open : Holding → Bool
is_open Nothing = false
is_open (Work a) = true
is_open (Watch s) = true

-- whether a permit is for this action
abbrev pub is_work_on : ℕ → Holding → Bool
is_work_on a (Work b) = b == a
is_work_on a _ = false

-- whether a permit is for a poll of this slot
abbrev pub is_watch_of : ℕ → Holding → Bool
is_watch_of s (Watch t) = t == s
is_watch_of s _ = false

-- the good replies to the request of an action
abbrev pub is_good : ActionKind → Reply → Bool
is_good (ActionKind.MakeVolume v) Reply.Done = true
is_good (ActionKind.MakeNetwork n) (Reply.Made id) = true
is_good (ActionKind.StopContainer c) Reply.Done = true
is_good (ActionKind.StopContainer c) Reply.Already = true
is_good (ActionKind.RemoveContainer c) Reply.Done = true
is_good (ActionKind.CreateSlot s) (Reply.Made id) = true
is_good (ActionKind.ConnectSlot s k) Reply.Done = true
is_good (ActionKind.StopKept s) Reply.Done = true
is_good (ActionKind.StopKept s) Reply.Already = true
is_good (ActionKind.StartSlot s) Reply.Done = true
is_good (ActionKind.StartSlot s) Reply.Already = true
is_good (ActionKind.RemoveNetwork n) Reply.Done = true
is_good (ActionKind.RemoveVolume v) Reply.Done = true
is_good _ _ = false

-- how an action stands: not claimed, claimed, ended well with this reply, or ended otherwise
pub data Standing : Type 0 where
  Free : Standing
  Out : Standing
  Well : Reply → Standing
  Badly : Standing

-- not claimed yet
abbrev pub is_free : Standing → Bool
is_free Free = true
is_free _ = false

-- ended well
abbrev pub is_well : Standing → Bool
is_well (Well reply) = true
is_well _ = false

-- ended otherwise than well
abbrev pub is_badly : Standing → Bool
is_badly Badly = true
is_badly _ = false

-- how an action of this kind stands once it has ended so
abbrev pub ended_as : Option ActionKind → Outcome → Standing
ended_as (Some kind) (Outcome.Answered reply) = if is_good kind reply then Well reply else Badly
ended_as _ _ = Badly

-- how an action stands after these entries
abbrev pub standing : Setup → List Entry → ℕ → Standing
standing setup [] a = Free
standing setup (Entry.Claim v b ∷ past) a = if b == a then Out else standing setup past a
standing setup (Entry.Ended v outcome ∷ past) a =
    if is_work_on a (holding past v) then ended_as (kind_of setup.actions a) outcome
    else standing setup past a
standing setup (_ ∷ past) a = standing setup past a

-- how often an action was claimed
abbrev pub claims : List Entry → ℕ → ℕ
claims [] a = 0
claims (Entry.Claim v b ∷ past) a = if b == a then claims past a + 1 else claims past a
claims (_ ∷ past) a = claims past a

-- how often a slot was polled
abbrev pub polls : List Entry → ℕ → ℕ
polls [] s = 0
polls (Entry.Poll v t ∷ past) s = if t == s then polls past s + 1 else polls past s
polls (_ ∷ past) s = polls past s

-- whether there was a Stop, Late or Short
abbrev pub is_ending : List Entry → Bool
is_ending [] = false
is_ending (Entry.Stop w ∷ past) = true
is_ending (Entry.Late w why ∷ past) = true
is_ending (Entry.Short w ∷ past) = true
is_ending (_ ∷ past) = is_ending past

-- whether a worker has left: it has a Leave, a Short or a Late with Entries
abbrev pub has_left : List Entry → ℕ → Bool
has_left [] w = false
has_left (Entry.Leave v ∷ past) w = if v == w then true else has_left past w
has_left (Entry.Short v ∷ past) w = if v == w then true else has_left past w
has_left (Entry.Late v LateWhy.Entries ∷ past) w = if v == w then true else has_left past w
has_left (_ ∷ past) w = has_left past w

-- whether a worker has a Stop, or a Late at the deadline
abbrev pub has_stopped : List Entry → ℕ → Bool
has_stopped [] w = false
has_stopped (Entry.Stop v ∷ past) w = if v == w then true else has_stopped past w
has_stopped (Entry.Late v (LateWhy.Deadline reading) ∷ past) w =
    if v == w then true else has_stopped past w
has_stopped (_ ∷ past) w = has_stopped past w

-- what the journal's observation saw, where it ended well
abbrev pub seen_in : List Entry → Option Seen
seen_in [] = None
seen_in (Entry.Seen observed ∷ past) = of observed.end
  where
    of : SeenEnd → Option Seen
    of (SeenEnd.Good seen) = Some seen
    of (SeenEnd.Bad fault) = None
seen_in (_ ∷ past) = seen_in past
