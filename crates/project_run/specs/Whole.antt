-- What a whole run leaves.
use Rattle.std.specs.Prelude.{◌≡◌, ◌⊎◌, ℕ, List, [], ◌∷◌, Option, Some, None, false, IfSome, IsSomeAnd, length, reverse, slice_get, true}
use Rattle.engine_types.specs.declared.ActionKind.{ActionKind}
use Rattle.engine_types.specs.declared.ActionKind.TheVariants.{CreateSlot, RemoveContainer, StopContainer, StopKept}
use Rattle.engine_types.specs.declared.Aim.{Aim}
use Rattle.engine_types.specs.declared.Declared.{Declared}
use Rattle.engine_types.specs.declared.Entry.{Entry}
use Rattle.engine_types.specs.declared.Observed.{Observed}
use Rattle.engine_types.specs.declared.RunFault.{RunFault}
use Rattle.engine_types.specs.declared.RunLimits.{RunLimits}
use Rattle.engine_types.specs.declared.Seen.{Seen}
use Rattle.ledger_run.specs.Steps.{steps_of}
use Rattle.ledger_run.specs.Tellings.{Telling, account_in}
use Rattle.observe_project.specs.Exchanges.{HasCauseOfEnd}
use Rattle.outside_api.specs.Accounts.{Account, AreCaused}
use Rattle.project_run.specs.Timing.{IsTimed, ReadsFirst}
use Rattle.run_model.specs.EngineRules.{Among, Step, TellsSteps}
use Rattle.run_model.specs.Logs.{GrowsBy}
use Rattle.run_model.specs.Plans.{is_kept, is_restarted, kept, kind_of, slot_at}
use Rattle.run_model.specs.Runs.{IsLeftByAll, IsRun, Task, run_exchanges, run_seen, run_setup}

-- to carry out for a declared set what an aim asks for, within limits
abbrev pub task_of : Declared → Aim → RunLimits → Task
task_of declared aim limits = record { declared = declared; aim = aim; limits = limits }

-- a fact on a journal that has an entry
abbrev pub IfBegun : List Entry → Type 0 → Type 0
IfBegun [] fact = Unit {0}
IfBegun (entry ∷ rest) fact = fact

-- the fault that is told: the expected one, if any, or want of memory in its place
abbrev pub IsFault : Option RunFault → Option RunFault → Type 0
IsFault expected fault = (fault ≡ expected) ⊎ (fault ≡ Some RunFault.Memory)

-- the report that is told: the expected one, or none of it where memory was wanted
abbrev pub IsReport : List ℕ → Option RunFault → List ℕ → Type 0
IsReport expected fault report =
    (report ≡ expected) ⊎ ((report ≡ []) × (fault ≡ Some RunFault.Memory))

-- each outcome of a worker's in the task's journal, the observation's for worker 0 too, has its cause in its own exchange, by
-- what the hand told before the run and tells now; and where the observation ended with a lost response or with a request that
-- wasn't sent, that was the last exchange, and what is heard last is what was heard in it
pub record IsCaused (task : Task) (journal : List Entry) (w : ℕ) (old new : Account) : Type 0 where
  pub exchanges : AreCaused (run_exchanges task journal w) old new
  pub observed : w ≡ 0 → (observation : Observed)
      → slice_get journal 0 ≡ Some (Entry.Seen observation)
      → HasCauseOfEnd new.heard old.faults new.faults observation.end

-- an action that leaves kept containers alone: it removes none, stops none but that of a slot which a need asks to restart, and
-- creates no other one for their slots
abbrev pub IsSparing : Declared → Seen → Option ActionKind → Type 0
IsSparing declared seen (Some (StopContainer c)) =
    IfSome (slice_get seen.containers c) (λ row. is_kept declared seen row ≡ false)
IsSparing declared seen (Some (RemoveContainer c)) =
    IfSome (slice_get seen.containers c) (λ row. is_kept declared seen row ≡ false)
IsSparing declared seen (Some (StopKept s)) =
    IsSomeAnd (slot_at declared s) (λ slot. is_restarted declared seen slot ≡ true)
IsSparing declared seen (Some (CreateSlot s)) = kept declared seen s ≡ None
IsSparing declared seen _ = Unit {0}

-- each action that a run claims leaves kept containers alone
abbrev pub SparesKept : Task → List Entry → Type 0
SparesKept task journal = (w a : ℕ) → Among journal (Entry.Claim w a)
    → IsSparing task.declared (run_seen journal) (kind_of (run_setup task journal).actions a)

-- what a worker's hand did by the task's journal: its exchanges, the observation's too for worker 0, and its pauses, in order
abbrev pub run_steps : Task → List Entry → ℕ → List Step
run_steps task journal w = steps_of (run_setup task journal) (reverse journal) w

-- a run of the task was made with the hand, whole
pub record Leaves (task : Task) (journal : List Entry) (before now : Telling) : Type 0 where
  pub run : IsRun task journal
  pub left : IsLeftByAll task journal
  pub begun : (entry : Entry) × (rest : List Entry) × (journal ≡ entry ∷ rest)
  pub log : GrowsBy (run_exchanges task journal 0) before.log now.log
  pub told : TellsSteps (run_steps task journal 0) before.engine now.engine
  pub caused : IsCaused task journal 0 (account_in before) (account_in now)
  pub timed : IsTimed task journal 0 before.clock now.clock
  pub read_first : ReadsFirst task.limits.deadline (length before.log) now.clock
