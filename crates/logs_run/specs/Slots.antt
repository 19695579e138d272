-- Whose logs are asked for, and by which worker.
use Rattle.std.specs.Prelude.{ℕ, ◌+◌, ◌%◌, ◌<◌, ◌==◌, Bool, true, false, List, [], ◌∷◌, ◌++◌, Option, Some, None, filter, unwrap_or}
use Rattle.tree_base.specs.ByteOrder.{least_by}
use Rattle.turn_ledger.specs.Own.{Each}
use Rattle.engine_types.specs.declared.Declared.{Declared}
use Rattle.engine_types.specs.declared.Listed.{Listed}
use Rattle.engine_types.specs.declared.Slot.{Slot}
use Rattle.run_model.specs.Labels.{is_of_slot}
use Rattle.logs_run.specs.declared.tasks.Task.{Task}

-- a slot's container: of those of the project with its service and its number the one with the least id
abbrev pub container_of : Declared → List Listed → Slot → Option Listed
container_of declared rows slot =
    least_by (λ row. row.id) (filter (λ row. is_of_slot declared.project slot row.labels) rows)

-- whether a slot's container has a terminal, so that what it wrote comes without frames (the Engine API's `Tty`)
abbrev pub has_terminal : Slot → Bool
has_terminal slot = unwrap_or slot.spec.tty false

-- what is asked of the slot at a place: nothing where it has no container, or a terminal
abbrev pub tasks_of : ℕ → Bool → Option Listed → List Task
tasks_of n terminal None = []
tasks_of n true (Some row) = []
tasks_of n false (Some row) = record { slot = n; id = row.id } ∷ []

-- what is asked of slots, the first of which stands at a place
abbrev pub tasks_from : Declared → List Listed → ℕ → List Slot → List Task
tasks_from declared rows n [] = []
tasks_from declared rows n (slot ∷ slots) =
    tasks_of n (has_terminal slot) (container_of declared rows slot)
    ++ tasks_from declared rows (n + 1) slots

-- what is asked of all slots, in their order
abbrev pub tasks : Declared → List Listed → List Task
tasks declared rows = tasks_from declared rows 0 declared.slots

-- what a worker asks: slots are dealt out to the workers in turn
abbrev pub own_tasks : ℕ → ℕ → List Task → List Task
own_tasks workers w all = filter (λ task. task.slot % workers == w) all

-- the slots of tasks ascend, so that no slot has two
abbrev pub AreAscending : List Task → Type 0
AreAscending [] = Unit {0}
AreAscending (task ∷ all) = Each (λ (other : Task). task.slot < other.slot) all × AreAscending all
