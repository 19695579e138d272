-- The small steps of a wait: what each takes of an outcome or of the listing, and leaves to whoever owns it.
use Rattle.std.specs.Prelude.{◌≡◌, ◌<◌, ◌≤◌, ◌^◌, ℕ, Bool, true, false, List, Option, Some, None, Result, Ok, Err, length, slice_get}
use Rattle.engine_types.specs.declared.Declared.{Declared}
use Rattle.engine_types.specs.declared.Listed.{Listed}
use Rattle.engine_types.specs.declared.Outcome.{Outcome}
use Rattle.engine_types.specs.declared.Report.{Report}
use Rattle.engine_types.specs.declared.Slot.{Slot}
use Rattle.run_model.specs.Conditions.{report_of}
use Rattle.tree_base.specs.declared.Memory.{Memory}
use Rattle.wait_run.specs.Goals.{FindsAll, reported_on, with_goal}
use Rattle.wait_run.specs.Looks.{row_of, rows_by}
use Rattle.wait_run.specs.declared.goals.Failing.{Failing}
use Rattle.wait_run.specs.declared.goals.Goal.{Goal}
use Rattle.wait_run.specs.declared.goals.Goals.{Goals}
use Rattle.wait_run.specs.declared.refusal.WaitRefusal.{WaitRefusal}

-- whether an exchange wanted memory
abbrev pub wants_memory : Outcome → Bool
wants_memory Outcome.Memory = true
wants_memory outcome = false

-- the report of an outcome was taken; or it has none, or there was no memory, and the goals are as before
abbrev pub TakesBy : ℕ → Outcome → Result Bool Memory → Goals → Goals → Type 0
TakesBy s outcome (Ok true) old new =
    (report : Report) × (report_of outcome ≡ Some report)
    × ((goal : Goal) → slice_get old.rows s ≡ Some goal → old.left ≤ 2 ^ 32
    → new ≡ reported_on s report goal old)
TakesBy s outcome (Ok false) old new = (report_of outcome ≡ None) × (new ≡ old)
TakesBy s outcome (Err memory) old new =
    (report : Report) × (report_of outcome ≡ Some report) × (new ≡ old)

-- what the slots' goals are by the rows that an outcome lists, where it lists any
abbrev pub FindsIn : Declared → Outcome → Option (Result Goals WaitRefusal) → Type 0
FindsIn declared outcome None = rows_by outcome ≡ None
FindsIn declared outcome (Some found) =
    (rows : List Listed) × (rows_by outcome ≡ Some rows) × FindsAll declared rows found

-- the next slot's goal was put last, with its container; or it has none
abbrev pub PutsGoal
    : List ℕ → List Listed → Slot → Goals → Goals → Result Unit WaitRefusal → Type 0
PutsGoal project rows slot old new (Ok done) =
    (row : Listed) × (row_of project rows slot ≡ Some row)
    × (new ≡ with_goal old slot.goal row.id) × (length old.rows < 2 ^ 32)
PutsGoal project rows slot old new (Err (WaitRefusal.NotThere name)) =
    (row_of project rows slot ≡ None) × (name ≡ slot.name)
PutsGoal project rows slot old new (Err WaitRefusal.Memory) = Unit {0}
PutsGoal project rows slot old new (Err refusal) = ⊥

-- the report that goes before a refusal: the first that failed a goal, unless memory was wanted
abbrev pub goes_first : Option Failing → WaitRefusal → Option Failing
goes_first failed WaitRefusal.Memory = None
goes_first failed refusal = failed
