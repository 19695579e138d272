-- The condition that a report makes fail where no entry failed before it: then nothing is blocked, and what is still to come is
-- what nobody claimed.
use Rattle.std.specs.Prelude.{ℕ, Bool, if◌then◌else◌, ◌&&◌, ◌==◌, List, [], ◌∷◌, Option, Some, None, find, option_and_then, option_map}
use Rattle.std.specs.Option.{option_or}
use Rattle.engine_types.specs.declared.Condition.{Condition}
use Rattle.engine_types.specs.declared.Entry.{Entry}
use Rattle.engine_types.specs.declared.Need.{Need}
use Rattle.engine_types.specs.declared.Report.{Report}
use Rattle.engine_types.specs.declared.Slot.{Slot}
use Rattle.run_model.specs.Conditions.{is_failed_verdict, judge, poll_counts}
use Rattle.run_model.specs.Journals.{Setup}
use Rattle.run_model.specs.Numbers.{places}
use Rattle.run_model.specs.Plans.{kind_of, slot_at, slot_needs}
use Rattle.run_report.specs.Claims.{was_claimed}

-- whether a report fails a condition
abbrev pub is_against : Report → Condition → Bool
is_against report condition = is_failed_verdict (judge condition report)

-- whether a report on a slot fails what a need requires
abbrev pub fails_need : ℕ → Report → Need → Bool
fails_need s report need = need.required && (s == need.slot) && is_against report need.condition

-- the first condition that these needs require and a report on a slot fails
abbrev pub failed_of : ℕ → Report → List Need → Option Condition
failed_of s report needs = option_map (λ need. need.condition) (find (fails_need s report) needs)

-- the condition that a report on a slot fails of what an action requires, unless the action was claimed
abbrev pub failed_by_start : Setup → List Entry → ℕ → Report → ℕ → Option Condition
failed_by_start setup past s report a =
    if was_claimed past a then None
    else failed_of s report (slot_needs setup.declared (kind_of setup.actions a))

-- the first value that a function gives
abbrev pub first_some : {X Y : Type 0} → (X → Option Y) → List X → Option Y
first_some f [] = None
first_some f (x ∷ xs) = option_or (f x) (first_some f xs)

-- the condition that a report on a slot fails of what the actions require, by their numbers
abbrev pub failed_by_starts : Setup → List Entry → ℕ → Report → Option Condition
failed_by_starts setup past s report =
    first_some (failed_by_start setup past s report) (places setup.actions)

-- a slot's goal, where a report fails it
abbrev pub goal_against : Report → Slot → Option Condition
goal_against report slot = if is_against report slot.goal then Some slot.goal else None

-- the goal that a report on a slot fails; slots have goals where the run waits for them
abbrev pub failed_goal : Setup → ℕ → Report → Option Condition
failed_goal setup s report =
    if setup.limits.wait
    then option_and_then (goal_against report) (slot_at setup.declared s) else None

-- what a report on a slot fails of all that is wanted: the starts' needs before the goal
abbrev pub failed_wanted : Setup → List Entry → ℕ → Report → Option Condition
failed_wanted setup past s report =
    option_or (failed_by_starts setup past s report) (failed_goal setup s report)

-- the condition that the report of a worker's poll makes fail, where it counts
abbrev pub failed_condition : Setup → List Entry → ℕ → ℕ → Report → Option Condition
failed_condition setup past w s report =
    if poll_counts setup past w then failed_wanted setup past s report else None
