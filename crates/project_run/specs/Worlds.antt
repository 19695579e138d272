-- What a run of a project leaves in the Engine.
use Rattle.std.specs.Prelude.{◌≡◌, ℕ, ◌+◌, ◌≤◌, false, List, ◌++◌, Option, Some, None, IsSomeAnd, length}
use Rattle.engine_types.specs.declared.DeclaredService.{DeclaredService}
use Rattle.engine_types.specs.declared.Engine.{Engine}
use Rattle.engine_types.specs.declared.Entry.{Entry}
use Rattle.engine_types.specs.declared.Slot.{Slot}
use Rattle.cut_laws.specs.Spared.{SparesAlong}
use Rattle.rolling_update.specs.Moments.{lacking}
use Rattle.run_model.specs.Cuts.{Ran, Runs, TellsImages, creates, creates_over}
use Rattle.run_model.specs.EngineRules.{Among}
use Rattle.run_model.specs.Exact.{IsExact, IsGone}
use Rattle.run_model.specs.Rolling.{is_crossed}
use Rattle.run_model.specs.Runs.{IsWorldOfRun, Task, run_seen, run_setup}
use Rattle.run_model.specs.Worlds.{Move}

-- the Engine that a hand told at first went through the run, to the one that it tells now; a hand that told none tells none
abbrev pub GoesThrough : Task → List Entry → Option Engine → Option Engine → Type 0
GoesThrough task journal None now = now ≡ None
GoesThrough task journal (Some first) now =
    IsSomeAnd now (λ last. (moves : List Move) × IsWorldOfRun task journal first moves last)

-- in every world of the run the Engine holds exactly what is declared at its end
abbrev pub EndsExact : Task → List Entry → Type 0
EndsExact task journal =
    (first last : Engine) (moves : List Move) → IsWorldOfRun task journal first moves last
    → IsExact task.declared last task.aim.orphans

-- in every world of the run all that is declared is gone from the Engine at its end
abbrev pub EndsGone : Task → List Entry → Type 0
EndsGone task journal =
    (first last : Engine) (moves : List Move) → IsWorldOfRun task journal first moves last
    → IsGone task.declared last task.aim.orphans task.aim.volumes

-- whatever runs of `up` came before, each whole or cut off anywhere: over all of them and this one at most one container is made
-- for a slot, in every world, where all runs were told one id of each image
abbrev pub MakesOnce : Task → List Entry → Type 0
MakesOnce task journal =
    (images : List ℕ → List ℕ) (first mid last : Engine) (earlier : List Ran) (moves : List Move)
    → Runs task.declared images first earlier mid → IsWorldOfRun task journal mid moves last
    → TellsImages images journal → (slot : Slot) → Among task.declared.slots slot
    → creates task.declared slot moves + creates_over task.declared slot earlier ≤ 1

-- in every world of the run each effect spares the containers that agree with a slot
abbrev pub SparesAgreeing : Task → List Entry → Type 0
SparesAgreeing task journal = (first last : Engine) (moves : List Move)
    → (world : IsWorldOfRun task journal first moves last)
    → SparesAlong (run_setup task journal) first moves last world.world

-- in every world of the run, at no moment more slots of a service lack a live container by the run's doing than the service replaces
-- at a time, where it isn't crossed; a moment comes before any moves, between two, or after all
abbrev pub RollsFew : Task → List Entry → Type 0
RollsFew task journal =
    (first last : Engine) (later moves : List Move) (service : DeclaredService) (count : ℕ)
    → IsWorldOfRun task journal first (later ++ moves) last
    → Among task.declared.services service → service.roll ≡ Some count
    → is_crossed
    (record { declared = task.declared; seen = run_seen journal; aim = task.aim }) service.key
    ≡ false
    → length (lacking (run_setup task journal) moves service.key) ≤ count
