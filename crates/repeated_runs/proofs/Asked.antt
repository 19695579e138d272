-- Runs of what a call's words ask for.
use Rattle.std.proofs.Common.{◌≡◌, ◌⊎◌, ℕ, List, Option, Some, Ok, sym, subst, inl, inr}
use Rattle.std.specs.Prelude.{IfSome}
use Rattle.asked_project.specs.Asking.{Variables, command_of, options_asked}
use Rattle.asked_project.specs.Meaning.{IsSpelled, MeansAs, meaning}
use Rattle.asked_project.specs.declared.Asked.{Asked}
use Rattle.compose_cli.proofs.Dialled.{dial_asked}
use Rattle.compose_cli.proofs.Ran.{task_by}
use Rattle.compose_cli.specs.Dialling.{IsDialAsked, IsDialFor}
use Rattle.compose_cli.specs.Runs.{ForTask, aim_for}
use Rattle.engine_types.specs.declared.Aim.{Aim}
use Rattle.ledger_run.specs.Tellings.{Telling}
use Rattle.outside_files.specs.Files.{Contents}
use Rattle.repeated_runs.proofs.Places.{attempts_at}
use Rattle.repeated_runs.proofs.Workers.{workers_are}
use Rattle.repeated_runs.specs.Attempts.{AreAttempts}
use Rattle.repeated_runs.specs.Calls.{RunsAsked, RunsProject, first_reading_of}
use Rattle.repeated_runs.specs.Moments.{Moment}
use Rattle.repeated_runs.specs.Workers.{workers_asked}
use Rattle.repeated_runs.specs.declared.attempt.Attempts.{Attempts}
use Rattle.run_model.specs.Runs.{Task}

module _ {H : Type 0} (tell : H → Telling) (words : List (List ℕ)) (env : Variables) (cwd : List ℕ) (told later : Option Contents) (aim : Aim) (asked : Asked) (attempts : Attempts H) (old new : Moment)
    (kept : later ≡ told) (options : options_asked words env ≡ Ok asked.options) (command : command_of words env ≡ Some asked.options.command) (aimed : aim_for asked.options.command ≡ Some aim)
    (means : IfSome told (λ contents. MeansAs (meaning words env cwd contents) (Ok asked))) (spelled : IsSpelled words env cwd told asked.loaded) where
  many : asked.options.parallel ≡ workers_asked words env
  many = sym (workers_are words env asked.options options)

  asked_so : RunsProject tell (IsDialFor asked.options env cwd) asked.options.parallel later asked.options.command asked.loaded aim attempts old new
      → RunsAsked tell (workers_asked words env) words env cwd told attempts old new
  asked_so r = (
    r.0,
    subst (λ (n : ℕ). ForTask n words env cwd told (first_reading_of tell attempts) (λ t. r.0 ≡ t)) many
        (task_by words env cwd told later asked.options.parallel (first_reading_of tell attempts) aim asked (λ (t : Task). r.0 ≡ t) kept command aimed means spelled r.1),
    subst (λ (n : ℕ). AreAttempts tell (IsDialAsked words env cwd) n r.0 attempts old new) many
        (attempts_at tell (IsDialFor asked.options env cwd) (IsDialAsked words env cwd) (dial_asked words env cwd asked.options options) asked.options.parallel r.0 attempts old new r.2),
  )

  -- what was run of a project that words ask for was run of what they ask for
  pub runs_asked : {A : Type 0} → A ⊎ RunsProject tell (IsDialFor asked.options env cwd) asked.options.parallel later asked.options.command asked.loaded aim attempts old new
      → A ⊎ RunsAsked tell (workers_asked words env) words env cwd told attempts old new
  runs_asked (inl none) = inl none
  runs_asked (inr ran) = inr (asked_so ran)
