-- How a run opens: what follows from the end of its observation.
use Rattle.std.specs.Prelude.{◌≡◌, ◌⊎◌, false}
use Rattle.engine_types.specs.declared.Aim.{Aim}
use Rattle.engine_types.specs.declared.Declared.{Declared}
use Rattle.engine_types.specs.declared.Observed.{Observed}
use Rattle.engine_types.specs.declared.Seen.{Seen}
use Rattle.engine_types.specs.declared.SeenEnd.{SeenEnd}
use Rattle.engine_types.specs.declared.SeenFault.{SeenFault}
use Rattle.ledger_run.specs.Tellings.{Telling, account_in}
use Rattle.observe_project.specs.Exchanges.{HasCauseOfEnd}
use Rattle.outside_api.specs.Accounts.{AreCaused}
use Rattle.project_run.specs.declared.opening.Opening.{Opening}
use Rattle.run_model.specs.EngineRules.{ToldBy}
use Rattle.run_model.specs.Legal.{IsObserved, whole_end}
use Rattle.run_model.specs.Logs.{GrowsBy}
use Rattle.run_model.specs.Plans.{AreKeptPlaces, basis_of, is_too_long}
use Rattle.run_model.specs.Rolling.{run_actions}

-- an end is the whole one of what was observed, or want of memory stands in its place
abbrev pub IsWholeEnd : Declared → Aim → SeenEnd → SeenEnd → Type 0
IsWholeEnd declared aim before after =
    (after ≡ whole_end declared aim before) ⊎ (after ≡ SeenEnd.Bad SeenFault.Memory)

-- the observation that a run opens with
abbrev pub observation_of : Opening → Observed
observation_of (Opening.Planned observed plan) = observed
observation_of (Opening.Ended observed) = observed

-- an observation ended badly
abbrev pub HasEndedBadly : Observed → Type 0
HasEndedBadly observed = (fault : SeenFault) × (observed.end ≡ SeenEnd.Bad fault)

-- a run goes on with what was seen and its plan, and after a fault it has ended
abbrev pub Follows : Declared → Aim → Opening → Type 0
Follows declared aim (Opening.Planned observed plan) =
    (seen : Seen) × (observed.end ≡ SeenEnd.Good seen)
    × (plan.actions ≡ run_actions (basis_of declared seen aim))
    × (is_too_long (basis_of declared seen aim) ≡ false) × AreKeptPlaces declared seen plan.kept
Follows declared aim (Opening.Ended observed) = HasEndedBadly observed

-- a run has opened with the observation that was made with the hand
pub record Opens (declared : Declared) (aim : Aim) (opening : Opening)
    (before now : Telling) : Type 0 where
  pub observed : IsObserved declared aim (observation_of opening)
  pub follows : Follows declared aim opening
  pub log : GrowsBy (observation_of opening).exchanges before.log now.log
  pub told : ToldBy (observation_of opening).exchanges before.engine now.engine
  pub caused : AreCaused (observation_of opening).exchanges (account_in before) (account_in now)
  pub cause : HasCauseOfEnd now.heard before.faults now.faults (observation_of opening).end
  pub timed : now.clock ≡ before.clock
