-- What a run may begin with.
use Rattle.std.specs.Prelude.{◌≡◌, ◌≤◌, true, List, [], ◌∷◌}
use Rattle.engine_types.specs.declared.Aim.{Aim}
use Rattle.tree_base.specs.Limits.{most_workers}
use Rattle.engine_types.specs.declared.Declared.{Declared}
use Rattle.engine_types.specs.declared.Entry.{Entry}
use Rattle.engine_types.specs.declared.Observed.{Observed}
use Rattle.engine_types.specs.declared.Plan.{Plan}
use Rattle.engine_types.specs.declared.RunLimits.{RunLimits}
use Rattle.engine_types.specs.declared.Seen.{Seen}
use Rattle.engine_types.specs.declared.SeenEnd.{SeenEnd}
use Rattle.run_model.specs.Legal.{IsObserved}
use Rattle.run_model.specs.Observation.{is_up}
use Rattle.run_model.specs.Plans.{AreKeptPlaces, HasPlan, IsOrderly, IsWhole}
use Rattle.journal_laws.specs.Courses.{Course}

-- what a run may begin with: an observation that ended well, and a plan for what it saw and for its aim, perhaps with more
-- needs, that can be listed so that each action stands after those that it needs; goals for `up` alone; 1 to 16 workers
pub record MayBegin (declared : Declared) (observed : Observed) (plan : Plan)
    (limits : RunLimits) : Type 0 where
  pub aim : Aim
  pub seen : Seen
  pub good : observed.end ≡ SeenEnd.Good seen
  pub was_observed : IsObserved declared aim observed
  pub whole : IsWhole declared
  pub has_plan : HasPlan (record { declared = declared; seen = seen; aim = aim }) plan.actions
  pub orderly : IsOrderly declared plan.actions
  pub kept : AreKeptPlaces declared seen plan.kept
  pub waits_up : limits.wait ≡ true → is_up aim.purpose ≡ true
  pub some_worker : 1 ≤ limits.workers
  pub few_workers : limits.workers ≤ most_workers

-- a run by what it is of and its journal
abbrev pub run_of : Declared → Plan → RunLimits → List Entry → Course
run_of declared plan limits journal =
    record { declared = declared; plan = plan; limits = limits; journal = journal }

-- a run that has only its observation
abbrev pub begun : Declared → Observed → Plan → RunLimits → Course
begun declared observed plan limits = run_of declared plan limits (Entry.Seen observed ∷ [])
