-- What a run is prepared with.
use Rattle.std.specs.Prelude.{◌≡◌, ◌⊎◌, ◌≤◌, true, List}
use Rattle.engine_types.specs.declared.Aim.{Aim}
use Rattle.tree_base.specs.Limits.{most_workers}
use Rattle.engine_types.specs.declared.Action.{Action}
use Rattle.engine_types.specs.declared.Declared.{Declared}
use Rattle.engine_types.specs.declared.Observed.{Observed}
use Rattle.engine_types.specs.declared.Plan.{Plan}
use Rattle.engine_types.specs.declared.RunLimits.{RunLimits}
use Rattle.engine_types.specs.declared.Seen.{Seen}
use Rattle.engine_types.specs.declared.SeenEnd.{SeenEnd}
use Rattle.run_model.specs.Legal.{IsObserved}
use Rattle.run_model.specs.Observation.{is_up}
use Rattle.run_model.specs.Plans.{AreKeptPlaces, Basis, HasSmallNumbers, IsWhole, planned}
use Rattle.run_model.specs.Rolling.{run_actions}
use Rattle.plan_core.specs.Order.{HasNoCycle}
use Rattle.run_laws.specs.Orders.{NeedsDependencies}

-- the actions are those of the plan
abbrev pub AreThePlans : Basis → List Action → Type 0
AreThePlans basis actions = actions ≡ planned basis

-- the actions are those of the plan with the needs that a rolling update adds, for slots with numbers of 32 bits that need only
-- slots of services on which their own depends
pub record AreRolled (basis : Basis) (actions : List Action) : Type 0 where
  pub rolled : actions ≡ run_actions basis
  pub numbers : HasSmallNumbers basis.declared
  pub needs : NeedsDependencies basis.declared

-- what a run is prepared with: a whole declared set without a circle, an observation that ended well, the actions planned from
-- what it saw, the places of the containers that the slots keep, goals for `up` alone, and 1 to 16 workers
pub record IsPrepared (declared : Declared) (observed : Observed) (plan : Plan)
    (limits : RunLimits) : Type 0 where
  pub aim : Aim
  pub seen : Seen
  pub whole : IsWhole declared
  pub acyclic : HasNoCycle declared
  pub good : observed.end ≡ SeenEnd.Good seen
  pub was_observed : IsObserved declared aim observed
  pub actions :
      AreThePlans (record { declared = declared; seen = seen; aim = aim }) plan.actions
      ⊎ AreRolled (record { declared = declared; seen = seen; aim = aim }) plan.actions
  pub kept : AreKeptPlaces declared seen plan.kept
  pub waits_up : limits.wait ≡ true → is_up aim.purpose ≡ true
  pub some_worker : 1 ≤ limits.workers
  pub few_workers : limits.workers ≤ most_workers
