-- How long the stop of a container waits.
use Rattle.std.specs.Prelude.{ℕ, Bool, false, List, find, map, unwrap_or}
use Rattle.std.specs.Option.{option_map_or}
use Rattle.tree_base.specs.Limits.{usual_stop_seconds}
use Rattle.engine_types.specs.declared.Declared.{Declared}
use Rattle.engine_types.specs.declared.Listed.{Listed}
use Rattle.engine_types.specs.declared.RunLimits.{RunLimits}
use Rattle.run_model.specs.Labels.{names_slot}
use Rattle.run_model.specs.Plans.{slot_at}
use Rattle.plan_core.specs.Finding.{slot_text}
use Rattle.plan_core.specs.Keeping.{texts_under}

-- how many seconds the stop of a container waits: as asked for the run, else as the slot of its labels says, else 10
abbrev pub seconds_for : Declared → RunLimits → Listed → ℕ
seconds_for declared limits row = unwrap_or limits.stop_seconds
    (option_map_or (λ slot. slot.stop_seconds)
    (find (λ slot. names_slot slot row.labels) declared.slots) usual_stop_seconds)

-- the numbers of the slots, under their texts
abbrev pub slots_under : Declared → List (List ℕ × ℕ)
slots_under declared = texts_under (map slot_text declared.slots)

-- whether a container's labels name the slot with this number
abbrev pub is_named : Declared → Listed → ℕ → Bool
is_named declared row s =
    option_map_or (λ slot. names_slot slot row.labels) (slot_at declared s) false

-- how many seconds the stop of the slot with this number waits, and 10 past the last
abbrev pub seconds_at : Declared → ℕ → ℕ
seconds_at declared s = option_map_or (λ slot. slot.stop_seconds) (slot_at declared s) usual_stop_seconds

-- as the first of these slots says that a container's labels name
abbrev pub seconds_among : Declared → Listed → List ℕ → ℕ
seconds_among declared row numbers =
    option_map_or (seconds_at declared) (find (is_named declared row) numbers) usual_stop_seconds
