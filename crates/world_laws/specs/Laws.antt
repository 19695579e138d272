-- Laws of the worlds of a run.
use Rattle.std.specs.Prelude.{◌≡◌, ℕ, ◌<◌, List, [], ◌∷◌, Option, None, Some, IsSomeAnd, true, false, length}
use Rattle.engine_types.specs.declared.Aim.{Aim}
use Rattle.engine_types.specs.declared.Engine.{Engine}
use Rattle.engine_types.specs.declared.Entry.{Entry}
use Rattle.engine_types.specs.declared.Observed.{Observed}
use Rattle.run_model.specs.Ending.{IsFinal, first_fault}
use Rattle.run_model.specs.Exact.{IsExact, IsGone}
use Rattle.run_model.specs.Journals.{Setup, is_well, seen_in, standing}
use Rattle.run_model.specs.Legal.{IsLegal}
use Rattle.run_model.specs.Observation.{is_up}
use Rattle.run_model.specs.Plans.{IsWhole}
use Rattle.run_model.specs.Runs.{IsLeftByAll, IsRun, IsWorldOfRun, Task, run_exchanges, run_fault}
use Rattle.run_model.specs.Worlds.{Did, Move, World, entries_of}
use Rattle.world_laws.specs.OwnSpecs.{HasOwnSpecs}
use Rattle.world_laws.specs.Sights.{IsSightOf}
use Rattle.run_model.specs.EngineRules.{Step, TellsSteps, exchanges_in}

-- in a legal, final journal without a failing entry every action ended well
abbrev pub EveryActionEndedWell : Type 0
EveryActionEndedWell =
    (aim : Aim) (setup : Setup) (past : List Entry) → IsLegal aim setup past → IsFinal setup past
    → first_fault setup past ≡ None
    → (a : ℕ) → a < length setup.actions → is_well (standing setup past a) ≡ true

-- in every world, what an observation saw that ended well is what the Engine has at its end
abbrev pub SeenIsThere : Type 0
SeenIsThere =
    (aim : Aim) (setup : Setup) (first last : Engine) (moves : List Move) (observation : Observed)
    → World setup first (Did (Entry.Seen observation) ∷ moves) last → entries_of moves ≡ []
    → IsLegal aim setup (Entry.Seen observation ∷ [])
    → seen_in (Entry.Seen observation ∷ []) ≡ Some setup.seen
    → IsSightOf setup.declared aim.purpose setup.seen last

-- after a run of `up` without a fault the Engine holds exactly what is declared, whatever it held before, in every world of the run
abbrev pub ExactInEachWorld : Type 0
ExactInEachWorld = (task : Task) (journal : List Entry) (first last : Engine) (moves : List Move)
    → is_up task.aim.purpose ≡ true → IsWhole task.declared → HasOwnSpecs task.declared
    → IsRun task journal → run_fault task journal ≡ None
    → IsWorldOfRun task journal first moves last
    → IsExact task.declared last task.aim.orphans

-- after a run of `down` without a fault all that is declared is gone, whatever the Engine held before, in every world of the run
abbrev pub GoneInEachWorld : Type 0
GoneInEachWorld = (task : Task) (journal : List Entry) (first last : Engine) (moves : List Move)
    → is_up task.aim.purpose ≡ false → IsWhole task.declared
    → IsRun task journal → run_fault task journal ≡ None
    → IsWorldOfRun task journal first moves last
    → IsGone task.declared last task.aim.orphans task.aim.volumes

-- where the hand of a run's only worker tells how the Engine went through the hand's steps, of which the exchanges are the run's,
-- the run has a world, which ends with the Engine that the hand tells
abbrev pub ToldRunsHaveWorlds : Type 0
ToldRunsHaveWorlds =
    (task : Task) (journal : List Entry) (steps : List Step) (first : Engine) (new : Option Engine)
    → task.limits.workers ≡ 1 → IsWhole task.declared → IsRun task journal
    → exchanges_in steps ≡ run_exchanges task journal 0 → TellsSteps steps (Some first) new
    → IsSomeAnd new (λ last. (moves : List Move) × IsWorldOfRun task journal first moves last)

-- every worker of a run that has one worker has left, unless its observation ended badly
abbrev pub OneWorkerLeaves : Type 0
OneWorkerLeaves =
    (task : Task) (journal : List Entry) → task.limits.workers ≡ 1 → IsRun task journal
    → IsLeftByAll task journal
