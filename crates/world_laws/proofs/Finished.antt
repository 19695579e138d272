-- A run that came to its end without a failing entry, in one of its worlds.
use Rattle.std.proofs.Common.{◌≡◌, ℕ, ◌<◌, List, Some, true, length}
use Rattle.engine_types.specs.declared.Aim.{Aim}
use Rattle.engine_types.specs.declared.Engine.{Engine}
use Rattle.run_model.specs.Journals.{Setup, is_well, seen_in, standing}
use Rattle.run_model.specs.Legal.{IsLegal}
use Rattle.run_model.specs.Observation.{is_up}
use Rattle.run_model.specs.Plans.{Basis, HasPlan, IsWhole}
use Rattle.run_model.specs.Worlds.{Move, World, entries_of}
use Rattle.world_laws.specs.OwnSpecs.{HasOwnSpecs}

-- what a run's plan is made from
abbrev pub basis_of : Aim → Setup → Basis
basis_of aim setup = record { declared = setup.declared; seen = setup.seen; aim = aim }

-- what holds of a run at each of its moves, once its observation has ended well
pub record IsUnderWay (aim : Aim) (setup : Setup) (first : Engine) (moves : List Move) (last : Engine) : Type 0 where
  pub plan : HasPlan (basis_of aim setup) setup.actions
  pub legal : IsLegal aim setup (entries_of moves)
  pub saw : seen_in (entries_of moves) ≡ Some setup.seen
  pub world : World setup first moves last

-- and at its end: every action ended well
pub record IsEnded (aim : Aim) (setup : Setup) (first : Engine) (moves : List Move) (last : Engine) : Type 0 where
  pub way : IsUnderWay aim setup first moves last
  pub well : (a : ℕ) → a < length setup.actions → is_well (standing setup (entries_of moves) a) ≡ true

-- what holds of a run of `up` at each of its moves, once its observation has ended well
pub record IsRunning (aim : Aim) (setup : Setup) (first : Engine) (moves : List Move) (last : Engine) : Type 0 where
  pub up : is_up aim.purpose ≡ true
  pub whole : IsWhole setup.declared
  pub own : HasOwnSpecs setup.declared
  pub plan : HasPlan (basis_of aim setup) setup.actions
  pub legal : IsLegal aim setup (entries_of moves)
  pub saw : seen_in (entries_of moves) ≡ Some setup.seen
  pub world : World setup first moves last

-- and at its end: every action ended well
pub record IsFinished (aim : Aim) (setup : Setup) (first : Engine) (moves : List Move) (last : Engine) : Type 0 where
  pub running : IsRunning aim setup first moves last
  pub well : (a : ℕ) → a < length setup.actions → is_well (standing setup (entries_of moves) a) ≡ true
