-- What a call of words leaves, in plug and output, beside what it ends with.
use Rattle.std.specs.Prelude.{◌≡◌, ℕ, List, Option, Some, None}
use Rattle.asked_project.specs.Asking.{Variables}
use Rattle.asked_run.specs.Declaring.{ForDeclared}
use Rattle.compose_cli.specs.Dialling.{IsDialAsked}
use Rattle.compose_cli.specs.Ends.{SendsNothing}
use Rattle.compose_cli.specs.Runs.{ForTask, first_reading, options_for}
use Rattle.compose_words.specs.declared.Command.{Command}
use Rattle.declared_set.specs.declared.LoadedProject.{LoadedProject}
use Rattle.engine_types.specs.declared.Aim.{Aim}
use Rattle.ledger_run.specs.Tellings.{Telling}
use Rattle.outside_api.specs.declared.dial.Dial.{Dial}
use Rattle.outside_files.specs.Files.{Contents}
use Rattle.project_run.specs.Whole.{task_of}
use Rattle.refusals.specs.Origins.{IsBeforeDial}
use Rattle.refusals.specs.declared.Refusal.{Refusal}
use Rattle.repeated_runs.specs.Attempts.{AreAttempts, RanOnce, first_hands}
use Rattle.repeated_runs.specs.Moments.{Moment}
use Rattle.repeated_runs.specs.declared.attempt.Attempts.{Attempts}
use Rattle.run_model.specs.Runs.{Task, limits_of}

-- a call asked its plug for no hand
pub record AsksNothing {H : Type 0} (attempts : Attempts H) (dials_old dials_new : List Dial)
    (dialled_old dialled_new : Option ℕ) : Type 0 where
  pub once : RanOnce attempts
  pub nothing : SendsNothing attempts.last
  pub dials : dials_new ≡ dials_old
  pub dialled : dialled_new ≡ dialled_old

-- a call is refused before its first dial: by what it asks for or declares, or since memory was wanted
abbrev pub IsRefusedBeforeDial : Option Refusal → Type 0
IsRefusedBeforeDial None = ⊥
IsRefusedBeforeDial (Some refusal) = IsBeforeDial refusal

-- a call that is to run a project made no run: it was refused before its first dial, asked its plug for no hand and wrote nothing
pub record RunsNothing {H : Type 0} (attempts : Attempts H) (old new : Moment) : Type 0 where
  pub asks : AsksNothing attempts old.dials new.dials old.dialled new.dialled
  pub refused : IsRefusedBeforeDial attempts.last.refusal
  pub written : new.written ≡ old.written

-- the first reading of the clock of hand 0 of a call's first run
abbrev pub first_reading_of : {H : Type 0} → (H → Telling) → Attempts H → ℕ
first_reading_of tell attempts =
    first_reading (λ hand. (tell hand).clock) (first_hands attempts.earlier attempts.last)

-- a call ran one task, as often as `AreAttempts` says: what an aim asks for of what a project declares, within the limits that its
-- command, so many workers and the first reading of its first run set
abbrev pub RunsProject : {H : Type 0} → (H → Telling) → (ℕ → Dial → Type 0) → ℕ → Option Contents
    → Command → LoadedProject → Aim → Attempts H → Moment → Moment → Type 0
RunsProject tell Place workers told command loaded aim attempts old new =
    (task : Task) × ForDeclared told command loaded (λ declared. task ≡ task_of declared aim
    (limits_of workers (options_for command) (first_reading_of tell attempts)))
    × AreAttempts tell Place workers task attempts old new

-- a call ran one task, as often as `AreAttempts` says: the one that its words ask for of one project, within the limits that these, so
-- many workers and the first reading of its first run set; by dials that the words ask for
abbrev pub RunsAsked : {H : Type 0} → (H → Telling) → ℕ → List (List ℕ) → Variables → List ℕ
    → Option Contents → Attempts H → Moment → Moment → Type 0
RunsAsked tell workers words env cwd told attempts old new =
    (task : Task) × ForTask workers words env cwd told (first_reading_of tell attempts)
    (λ asked. task ≡ asked)
    × AreAttempts tell (IsDialAsked words env cwd) workers task attempts old new
