-- Conditions on a slot's container: which reports count, what is met, what has failed, what is blocked, and what is watched.
use Rattle.std.specs.Prelude.{ℕ, zero, suc, Bool, true, false, not, if◌then◌else◌, ◌&&◌, ◌||◌, ◌==◌, ℤ, pos, negsuc, List, [], ◌∷◌, Option, Some, None, length}
use Rattle.std.specs.List.{list_any, list_all}
use Rattle.std.specs.Option.{option_map_or}
use Rattle.engine_types.specs.declared.Condition.{Condition}
use Rattle.engine_types.specs.declared.ContainerState.{ContainerState}
use Rattle.engine_types.specs.declared.Entry.{Entry}
use Rattle.engine_types.specs.declared.Health.{Health}
use Rattle.engine_types.specs.declared.Need.{Need}
use Rattle.engine_types.specs.declared.Outcome.{Outcome}
use Rattle.engine_types.specs.declared.Reply.{Reply}
use Rattle.engine_types.specs.declared.Report.{Report}
use Rattle.run_model.specs.declared.verdict.Verdict.{Verdict}
use Rattle.run_model.specs.Journals.{Setup, holding, is_badly, is_free, is_watch_of, is_well, standing}
use Rattle.run_model.specs.Plans.{kind_of, needs_of, slot_at, slot_needs, start_of}
use Rattle.run_model.specs.Numbers.{places}

-- an exit code of 0
abbrev pub is_zero : ℤ → Bool
is_zero (pos n) = n == 0
is_zero (negsuc n) = false

-- what a report says of a health condition: it is met by a running and healthy container; it fails at an unhealthy one,
-- at a running one without health check, and at one that has exited, is dead or is being removed
abbrev pub judge_health : ContainerState → Health → Verdict
judge_health ContainerState.Running Health.Healthy = Verdict.Met
judge_health ContainerState.Running Health.Absent = Verdict.Failed
judge_health ContainerState.Exited _ = Verdict.Failed
judge_health ContainerState.Dead _ = Verdict.Failed
judge_health ContainerState.Removing _ = Verdict.Failed
judge_health _ Health.Unhealthy = Verdict.Failed
judge_health _ _ = Verdict.NotYet

-- what a report says of completion: an exit with 0 meets it; another exit, a dead container, and one that is being removed fail it
abbrev pub judge_completion : ContainerState → ℤ → Verdict
judge_completion ContainerState.Exited code = if is_zero code then Verdict.Met else Verdict.Failed
judge_completion ContainerState.Dead code = Verdict.Failed
judge_completion ContainerState.Removing code = Verdict.Failed
judge_completion state code = Verdict.NotYet

-- what a report says of running: it is met by a running container that has no health check or is healthy; it fails at an
-- unhealthy one, and at one that has exited, is dead or is being removed
abbrev pub judge_running : ContainerState → Health → Verdict
judge_running ContainerState.Running Health.Absent = Verdict.Met
judge_running ContainerState.Running Health.Healthy = Verdict.Met
judge_running ContainerState.Exited _ = Verdict.Failed
judge_running ContainerState.Dead _ = Verdict.Failed
judge_running ContainerState.Removing _ = Verdict.Failed
judge_running _ Health.Unhealthy = Verdict.Failed
judge_running _ _ = Verdict.NotYet

-- what a report says of a condition; the conditions are those of the Compose Specification's `depends_on`, and Running
abbrev pub judge : Condition → Report → Verdict
judge Condition.Started report = Verdict.Met
judge Condition.Healthy report = judge_health report.state report.health
judge Condition.Completed report = judge_completion report.state report.exit_code
judge Condition.Running report = judge_running report.state report.health

-- the verdict Met
abbrev pub is_met_verdict : Verdict → Bool
is_met_verdict Verdict.Met = true
is_met_verdict _ = false

-- the verdict Failed
abbrev pub is_failed_verdict : Verdict → Bool
is_failed_verdict Verdict.Failed = true
is_failed_verdict _ = false

-- the report of an outcome
abbrev pub report_of : Outcome → Option Report
report_of (Outcome.Answered (Reply.State report)) = Some report
report_of _ = None

-- whether a report on a slot that is asked for here counts: the slot's start ended well, or the plan has none
abbrev pub counts : Setup → List Entry → ℕ → Bool
counts setup past s =
    option_map_or (λ a. is_well (standing setup past a)) (start_of setup.actions s) true

-- whether the report of a worker's latest poll counts
abbrev pub poll_counts : Setup → List Entry → ℕ → Bool
poll_counts setup [] w = false
poll_counts setup (Entry.Poll v s ∷ past) w =
    if v == w then counts setup past s else poll_counts setup past w
poll_counts setup (_ ∷ past) w = poll_counts setup past w

-- the condition Started, `service_started` of the Compose Specification
abbrev pub is_started : Condition → Bool
is_started Condition.Started = true
is_started _ = false

-- whether the end of a slot's poll fails a condition: its report counts and says so, or there is no report
abbrev pub fails : Condition → Outcome → Bool → Bool
fails condition outcome counted =
    option_map_or (λ report. counted && is_failed_verdict (judge condition report))
    (report_of outcome) true

-- whether the end of a slot's poll meets a condition
abbrev pub meets : Condition → Outcome → Bool → Bool
meets condition outcome counted =
    option_map_or (λ report. counted && is_met_verdict (judge condition report))
    (report_of outcome) false

-- whether a condition other than Started has failed on a slot: some end of a poll failed it, and nothing later takes that back
abbrev pub has_failed : Setup → List Entry → ℕ → Condition → Bool
has_failed setup [] s condition = false
has_failed setup (Entry.Ended v outcome ∷ past) s condition =
    (not (is_started condition) && is_watch_of s (holding past v)
    && fails condition outcome (poll_counts setup past v))
    || has_failed setup past s condition
has_failed setup (_ ∷ past) s condition = has_failed setup past s condition

-- whether some end of a poll met a condition on a slot
abbrev pub was_met : Setup → List Entry → ℕ → Condition → Bool
was_met setup [] s condition = false
was_met setup (Entry.Ended v outcome ∷ past) s condition =
    (is_watch_of s (holding past v) && meets condition outcome (poll_counts setup past v))
    || was_met setup past s condition
was_met setup (_ ∷ past) s condition = was_met setup past s condition

-- whether a condition on a slot is met: Started by the well ended start, another by a report, unless it has failed
abbrev pub is_met : Setup → List Entry → ℕ → Condition → Bool
is_met setup past s Condition.Started = counts setup past s
is_met setup past s condition =
    not (has_failed setup past s condition) && was_met setup past s condition

-- whether an action ended otherwise than well, or is blocked, as this says
abbrev pub is_lost : Setup → List Entry → (ℕ → Bool) → ℕ → Bool
is_lost setup past blocked a = is_badly (standing setup past a) || blocked a

-- whether the start of a slot is lost
abbrev pub is_start_lost : Setup → List Entry → (ℕ → Bool) → ℕ → Bool
is_start_lost setup past blocked s =
    option_map_or (is_lost setup past blocked) (start_of setup.actions s) false

-- whether a required need has failed: its condition has, or the start of its slot is lost
abbrev pub is_need_lost : Setup → List Entry → (ℕ → Bool) → Need → Bool
is_need_lost setup past blocked need =
    need.required
    && (has_failed setup past need.slot need.condition
    || is_start_lost setup past blocked need.slot)

-- whether an action is blocked by a chain of at most so many: it isn't claimed, and one that it needs is lost, or it is a
-- start with a required need that has failed
abbrev pub blocked_within : ℕ → Setup → List Entry → ℕ → Bool
blocked_within zero setup past a = false
blocked_within (suc n) setup past a =
    is_free (standing setup past a)
    && (list_any (is_lost setup past (blocked_within n setup past)) (needs_of setup.actions a)
    || list_any (is_need_lost setup past (blocked_within n setup past))
    (slot_needs setup.declared (kind_of setup.actions a)))

-- whether an action is blocked: no chain is longer than the plan
abbrev pub is_blocked : Setup → List Entry → ℕ → Bool
is_blocked setup past a = blocked_within (length setup.actions) setup past a

-- whether a slot's need lets its start go: it is met, or it isn't required and can no longer be met
abbrev pub lets : Setup → List Entry → Need → Bool
lets setup past need =
    is_met setup past need.slot need.condition
    || (not need.required
    && (has_failed setup past need.slot need.condition
    || is_start_lost setup past (is_blocked setup past) need.slot))

-- whether an action is allowed: it isn't claimed, all that it needs ended well, and its slot's needs let it go
abbrev pub is_allowed : Setup → List Entry → ℕ → Bool
is_allowed setup past a =
    is_free (standing setup past a)
    && list_all (λ b. is_well (standing setup past b)) (needs_of setup.actions a)
    && list_all (lets setup past) (slot_needs setup.declared (kind_of setup.actions a))

-- whether an action is still to come: it is neither claimed nor blocked
abbrev pub is_pending : Setup → List Entry → ℕ → Bool
is_pending setup past a = is_free (standing setup past a) && not (is_blocked setup past a)

-- a slot's goal
abbrev pub goal_of : Setup → ℕ → Condition
goal_of setup s = option_map_or (λ slot. slot.goal) (slot_at setup.declared s) Condition.Running

-- whether a slot has a goal that is neither met nor failed: slots have goals where the run waits for them
abbrev pub is_goal_open : Setup → List Entry → ℕ → Bool
is_goal_open setup past s =
    setup.limits.wait && not (is_met setup past s (goal_of setup s))
    && not (has_failed setup past s (goal_of setup s))

-- the conditions that only a report shows: `service_healthy` and `service_completed_successfully` of the Compose Specification
abbrev pub is_reported : Condition → Bool
is_reported Condition.Healthy = true
is_reported Condition.Completed = true
is_reported _ = false

-- whether a need asks for a report on a slot, which hasn't failed it
abbrev pub asks_for : Setup → List Entry → ℕ → Need → Bool
asks_for setup past s need =
    (need.slot == s) && is_reported need.condition && not (has_failed setup past s need.condition)

-- whether some start that is still to come asks for a report on a slot
abbrev pub is_needed : Setup → List Entry → ℕ → Bool
is_needed setup past s = list_any
    (λ a. is_pending setup past a
    && list_any (asks_for setup past s) (slot_needs setup.declared (kind_of setup.actions a)))
    (places setup.actions)

-- whether a slot is watched: a start asks for its report, or its goal is open, and its reports count
abbrev pub is_watched : Setup → List Entry → ℕ → Bool
is_watched setup past s =
    counts setup past s && (is_needed setup past s || is_goal_open setup past s)
