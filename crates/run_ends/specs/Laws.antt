-- When a run is over that its workers left.
use Rattle.std.specs.Prelude.{◌≡◌, ◌≤◌, ℕ, true, false, List, ◌∷◌}
use Rattle.std.specs.List.{list_all}
use Rattle.engine_types.specs.declared.Aim.{Aim}
use Rattle.engine_types.specs.declared.Entry.{Entry}
use Rattle.run_model.specs.Ending.{EveryWorkerLeft, IsRunOver, is_goal_over, is_over}
use Rattle.run_model.specs.Journals.{Setup, is_ending}
use Rattle.run_model.specs.Legal.{IsLegal}
use Rattle.run_model.specs.Numbers.{places}
use Rattle.run_model.specs.Plans.{IsOrderly, IsWhole}

-- all that there was to do is over: every action ended or is blocked, and every goal is met or failed, or can't be judged
pub record IsAllOver (setup : Setup) (past : List Entry) : Type 0 where
  pub actions : list_all (is_over setup past) (places setup.actions) ≡ true
  pub goals : list_all (is_goal_over setup past) (places setup.declared.slots) ≡ true

-- where every worker has left and none was stopped, late or short of memory, all that there was to do is over
abbrev pub RunsComeToTheirEnd : Type 0
RunsComeToTheirEnd = (aim : Aim) (setup : Setup) (past : List Entry) → 1 ≤ setup.limits.workers
    → IsWhole setup.declared → IsOrderly setup.declared setup.actions
    → IsLegal aim setup past → EveryWorkerLeft setup past → is_ending past ≡ false
    → IsAllOver setup past

-- where no worker was stopped, late or short of memory, the run is over already as one leaves
abbrev pub FirstLeaveEndsRun : Type 0
FirstLeaveEndsRun = (aim : Aim) (setup : Setup) (past : List Entry) (w : ℕ)
    → IsWhole setup.declared → IsOrderly setup.declared setup.actions
    → IsLegal aim setup (Entry.Leave w ∷ past) → is_ending past ≡ false
    → IsRunOver setup (Entry.Leave w ∷ past)

-- where the last of the workers leaves, since there is nothing left to do, the run is over
abbrev pub LastLeavesEndRuns : Type 0
LastLeavesEndRuns = (aim : Aim) (setup : Setup) (past : List Entry) (w : ℕ)
    → IsWhole setup.declared → IsOrderly setup.declared setup.actions
    → IsLegal aim setup (Entry.Leave w ∷ past) → EveryWorkerLeft setup (Entry.Leave w ∷ past)
    → IsRunOver setup (Entry.Leave w ∷ past)

-- a run that every worker has left is over
abbrev pub LeftRunsAreOver : Type 0
LeftRunsAreOver = (aim : Aim) (setup : Setup) (past : List Entry) → 1 ≤ setup.limits.workers
    → IsWhole setup.declared → IsOrderly setup.declared setup.actions
    → IsLegal aim setup past → EveryWorkerLeft setup past
    → IsRunOver setup past
