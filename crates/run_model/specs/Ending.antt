-- When a journal is final, which of its entries fails first, and the status of a run.
use Rattle.std.specs.Prelude.{◌≡◌, ◌⊎◌, ℕ, ◌<◌, Bool, true, false, not, if◌then◌else◌, ◌&&◌, ◌||◌, List, [], ◌∷◌, ◌++◌, Option, Some, None, map, find, flat_map, option_map}
use Rattle.std.specs.List.{list_any, list_all}
use Rattle.std.specs.Option.{option_map_or, option_or}
use Rattle.engine_types.specs.declared.Condition.{Condition}
use Rattle.engine_types.specs.declared.Entry.{Entry}
use Rattle.engine_types.specs.declared.LogsRefusal.{LogsRefusal}
use Rattle.engine_types.specs.declared.Need.{Need}
use Rattle.engine_types.specs.declared.Outcome.{Outcome}
use Rattle.engine_types.specs.declared.Report.{Report}
use Rattle.engine_types.specs.declared.Request.{Request}
use Rattle.engine_types.specs.declared.RunFault.{RunFault}
use Rattle.engine_types.specs.declared.SeenEnd.{SeenEnd}
use Rattle.engine_types.specs.declared.SeenFault.{SeenFault}
use Rattle.engine_types.specs.declared.StreamFault.{StreamFault}
use Rattle.engine_types.specs.declared.WireEnd.{WireEnd}
use Rattle.run_model.specs.Conditions.{counts, goal_of, has_failed, is_blocked, is_goal_open, is_pending, report_of}
use Rattle.run_model.specs.Journals.{Holding, Nothing, Setup, Watch, Work, ended_as, has_left, holding, is_badly, is_ending, is_well, standing}
use Rattle.run_model.specs.Legal.{workers}
use Rattle.run_model.specs.Plans.{kind_of, slot_at, slot_needs}
use Rattle.run_model.specs.Requests.{request_out}
use Rattle.run_model.specs.Numbers.{places}

-- whether an action ended, well or otherwise, or is blocked
abbrev pub is_over : Setup → List Entry → ℕ → Bool
is_over setup past a =
    is_well (standing setup past a) || is_badly (standing setup past a) || is_blocked setup past a

-- whether a slot's goal is met or failed, or its reports don't count
abbrev pub is_goal_over : Setup → List Entry → ℕ → Bool
is_goal_over setup past s = not (counts setup past s) || not (is_goal_open setup past s)

-- whether the journal's observation ended badly
abbrev pub is_seen_bad : List Entry → Bool
is_seen_bad [] = false
is_seen_bad (Entry.Seen observation ∷ past) = of observation.end
  where
    of : SeenEnd → Bool
    of (SeenEnd.Good seen) = false
    of (SeenEnd.Bad fault) = true
is_seen_bad (_ ∷ past) = is_seen_bad past

-- a run that came to its end: no permit is out, some worker has left, and either the run was stopped, or every action is
-- over and every goal is too
pub record IsRunOver (setup : Setup) (past : List Entry) : Type 0 where
  pub none_out : (w : ℕ) → w < setup.limits.workers → holding past w ≡ Nothing
  pub left : list_any (has_left past) (workers setup) ≡ true
  pub over : (is_ending past ≡ true)
      ⊎ ((list_all (is_over setup past) (places setup.actions) ≡ true)
      × (list_all (is_goal_over setup past) (places setup.declared.slots) ≡ true))

-- every worker of the run has left
abbrev pub EveryWorkerLeft : Setup → List Entry → Type 0
EveryWorkerLeft setup past = (w : ℕ) → w < setup.limits.workers → has_left past w ≡ true

-- a final journal: its observation ended badly, or its run came to its end
abbrev pub IsFinal : Setup → List Entry → Type 0
IsFinal setup past = (is_seen_bad past ≡ true) ⊎ IsRunOver setup past

-- the fault of an observation that ended badly
abbrev pub seen_fault : SeenEnd → Option RunFault
seen_fault (SeenEnd.Good seen) = None
seen_fault (SeenEnd.Bad SeenFault.Memory) = Some RunFault.Memory
seen_fault (SeenEnd.Bad fault) = Some (RunFault.Seen fault)

-- the fault of an exchange that didn't end well
abbrev pub exchange_fault : Request → Outcome → RunFault
exchange_fault request Outcome.Memory = RunFault.Memory
exchange_fault request outcome = RunFault.Request request outcome

-- a condition that an entry makes fail: whose it is
pub record Failing : Type 0 where
  pub slot : ℕ
  pub condition : Condition

-- the required needs of the starts that are still to come, by the start's number, and then the goals
abbrev pub wanted_conditions : Setup → List Entry → List Failing
wanted_conditions setup past =
    flat_map of_start (places setup.actions)
    ++ (if setup.limits.wait then map of_goal (places setup.declared.slots) else [])
  where
    of_need : Need → List Failing
    of_need need =
        if need.required then record { slot = need.slot; condition = need.condition } ∷ [] else []

    of_start : ℕ → List Failing
    of_start a =
        if is_pending setup past a
        then flat_map of_need (slot_needs setup.declared (kind_of setup.actions a)) else []

    of_goal : ℕ → Failing
    of_goal s = record { slot = s; condition = goal_of setup s }

-- whether a condition fails by an entry that comes next
abbrev pub fails_now : Setup → List Entry → Entry → Failing → Bool
fails_now setup past entry failing =
    not (has_failed setup past failing.slot failing.condition)
    && has_failed setup (entry ∷ past) failing.slot failing.condition

-- the name of a slot's container
abbrev pub slot_name : Setup → ℕ → List ℕ
slot_name setup s = option_map_or (λ slot. slot.name) (slot_at setup.declared s) []

-- the fault of a report: the first wanted condition that it makes fail
abbrev pub report_fault : Setup → List Entry → Entry → Report → Option RunFault
report_fault setup past entry report =
    option_map (λ failing. RunFault.Condition
    (slot_name setup failing.slot) failing.condition report)
    (find (fails_now setup past entry) (wanted_conditions setup past))

-- the fault of the end of a claim or a poll
abbrev pub ended_fault : Setup → List Entry → ℕ → Outcome → Holding → Option RunFault
ended_fault setup past w outcome Nothing = None
ended_fault setup past w outcome (Work a) =
    if is_well (ended_as (kind_of setup.actions a) outcome) then None
    else Some (exchange_fault (request_out setup past w) outcome)
ended_fault setup past w outcome (Watch s) = of (report_of outcome)
  where
    of : Option Report → Option RunFault
    of (Some report) = report_fault setup past (Entry.Ended w outcome) report
    of None = Some (exchange_fault (request_out setup past w) outcome)

-- the fault of an entry after these; none where the entry doesn't fail
abbrev pub fault_of : Setup → List Entry → Entry → Option RunFault
fault_of setup past (Entry.Seen observation) = seen_fault observation.end
fault_of setup past (Entry.Ended w outcome) = ended_fault setup past w outcome (holding past w)
fault_of setup past (Entry.Stop w) = Some RunFault.Stopped
fault_of setup past (Entry.Late w why) = Some (RunFault.Late why)
fault_of setup past (Entry.Short w) = Some RunFault.Memory
fault_of setup past _ = None

-- the fault of the first entry that fails: what a run is refused with
abbrev pub first_fault : Setup → List Entry → Option RunFault
first_fault setup [] = None
first_fault setup (entry ∷ past) = option_or (first_fault setup past) (fault_of setup past entry)

-- the status of a response that was lost
abbrev pub lost_status : WireEnd → ℕ
lost_status WireEnd.TooLarge = 8
lost_status cause = 7

-- the status of an outcome that isn't well: 3 where the Engine refused
abbrev pub outcome_status : Outcome → ℕ
outcome_status (Outcome.Answered reply) = 3
outcome_status (Outcome.Lost cause) = lost_status cause
outcome_status Outcome.NotSent = 7
outcome_status Outcome.Memory = 9

-- the status of an observation that ended badly
abbrev pub seen_status : SeenFault → ℕ
seen_status (SeenFault.Lost request cause) = lost_status cause
seen_status (SeenFault.NotSent request) = 7
seen_status (SeenFault.TooManyActions count) = 8
seen_status SeenFault.Memory = 9
seen_status fault = 3

-- the status of logs that aren't all there
abbrev pub logs_refusal_status : LogsRefusal → ℕ
logs_refusal_status (LogsRefusal.TooManySlots count) = 8
logs_refusal_status (LogsRefusal.Terminal slot) = 2
logs_refusal_status (LogsRefusal.Frames slot at) = 7
logs_refusal_status LogsRefusal.LogsFull = 8
logs_refusal_status (LogsRefusal.Request request outcome) = outcome_status outcome
logs_refusal_status LogsRefusal.Memory = 9

-- the status of what ended a stream of events
abbrev pub stream_status : StreamFault → ℕ
stream_status (StreamFault.Refused status) = 3
stream_status (StreamFault.Wire cause) = lost_status cause
stream_status (StreamFault.BadEvent at) = 7
stream_status (StreamFault.TooLong at) = 8
stream_status StreamFault.Closed = 7

-- the exit status of a run that is refused so
abbrev pub fault_status : RunFault → ℕ
fault_status (RunFault.Seen fault) = seen_status fault
fault_status (RunFault.Request request outcome) = outcome_status outcome
fault_status (RunFault.Condition slot condition report) = 4
fault_status RunFault.Stopped = 5
fault_status (RunFault.Late why) = 6
fault_status RunFault.Memory = 9

-- the exit status of a run: that of its first failing entry, else 0
abbrev pub status_of : Setup → List Entry → ℕ
status_of setup past = option_map_or fault_status (first_fault setup past) 0
