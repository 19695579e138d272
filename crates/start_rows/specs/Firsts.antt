-- The first rows of actions and slots.
use Rattle.std.specs.Prelude.{ℕ, ◌+◌, Bool, true, false, not, if◌then◌else◌, List, [], Option, Some, None, get_or, is_some, length}
use Rattle.std.specs.Option.{option_map_or}
use Rattle.engine_types.specs.declared.Action.{Action}
use Rattle.engine_types.specs.declared.Condition.{Condition}
use Rattle.engine_types.specs.declared.Declared.{Declared}
use Rattle.engine_types.specs.declared.Need.{Need}
use Rattle.run_model.specs.Conditions.{is_started}
use Rattle.run_model.specs.Plans.{kind_of, needs_of, slot_at, slot_needs}
use Rattle.run_model.specs.declared.verdict.Verdict.{Verdict}
use Rattle.ledger_rows.specs.Counts.{counted}
use Rattle.slot_rows.specs.declared.slot_row.SlotRow.{SlotRow}

-- whether a need keeps its start at first: each does, but one for Started of a slot that no action starts
abbrev pub keeps_first : List (Option ℕ) → Need → Bool
keeps_first starts need = if is_started need.condition then is_some (get_or starts need.slot None) else true

-- how many needs keep an action at first: all that it needs, and those of its slot that keep it
abbrev pub first_lack : Declared → List Action → List (Option ℕ) → ℕ → ℕ
first_lack declared actions starts a =
    length (needs_of actions a)
    + counted (keeps_first starts) (slot_needs declared (kind_of actions a))

-- the first row of a slot with this goal and start, for which so many needs ask
abbrev pub row_of : Condition → Option ℕ → ℕ → ℕ → Bool → SlotRow
row_of goal start healthy completed wait = record {
  counts = not (is_some start);
  out = false;
  polls = 0;
  healthy = Verdict.NotYet;
  completed = Verdict.NotYet;
  running = Verdict.NotYet;
  healthy_askers = healthy;
  completed_askers = completed;
  goal = if wait then Some goal else None;
}

-- the first row of a slot, where the starts of all slots and those that ask for them are these
abbrev pub first_slot : Declared → Bool → List (Option ℕ) → List (List ℕ) → List (List ℕ) → ℕ → SlotRow
first_slot declared wait starts healthy completed s =
    row_of (option_map_or (λ slot. slot.goal) (slot_at declared s) Condition.Running)
    (get_or starts s None) (length (get_or healthy s [])) (length (get_or completed s [])) wait
