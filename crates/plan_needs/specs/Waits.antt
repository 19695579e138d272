-- What an action waits for.
use Rattle.std.specs.Prelude.{ℕ, ◌+◌, Bool, true, false, not, if◌then◌else◌, ◌&&◌, ◌==◌, List, [], Option, None, get_or}
use Rattle.std.specs.Option.{option_map_or}
use Rattle.engine_types.specs.declared.Action.{Action}
use Rattle.engine_types.specs.declared.Declared.{Declared}
use Rattle.engine_types.specs.declared.Need.{Need}
use Rattle.run_model.specs.Conditions.{is_started}
use Rattle.run_model.specs.Plans.{kind_of, needs_of, slot_needs}
use Rattle.ledger_rows.specs.Counts.{counted}
use Rattle.plan_needs.specs.declared.wait.Wait.{Wait}

-- whether the actions that an action needs are among those that it waits for so
abbrev pub begins_with_needs : Wait → Bool
begins_with_needs Wait.Optional = false
begins_with_needs _ = true

-- those of them that it waits for so
abbrev pub needs_for : Wait → List ℕ → List ℕ
needs_for wait needs = if begins_with_needs wait then needs else []

-- whether it waits so for the start that a need names
abbrev pub is_wanted : Wait → Need → Bool
is_wanted Wait.Required need = need.required
is_wanted Wait.Optional need = not need.required
is_wanted Wait.Started need = is_started need.condition

-- whether a need waits so for this start, where the starts of the slots are these
abbrev pub waits_for : Wait → List (Option ℕ) → ℕ → Need → Bool
waits_for wait starts x need =
    is_wanted wait need && option_map_or (λ b. b == x) (get_or starts need.slot None) false

-- how often an action waits so for another one
abbrev pub waited : Wait → Declared → List Action → List (Option ℕ) → ℕ → ℕ → ℕ
waited wait declared actions starts a x =
    counted (λ b. b == x) (needs_for wait (needs_of actions a))
    + counted (waits_for wait starts x) (slot_needs declared (kind_of actions a))
