-- What a run leaves in the Engine: the one that the hand tells went through it, and holds exactly what is
-- declared after `up`, and nothing of it after `down`.
use Rattle.std.proofs.Common.{◌≡◌, List, [], ◌∷◌, Option, Some, None, true, false, reverse, refl, sym, ◌∙◌, subst, inl, inr}
use Rattle.engine_types.specs.declared.Aim.{Aim}
use Rattle.engine_types.specs.declared.Declared.{Declared}
use Rattle.engine_types.specs.declared.Engine.{Engine}
use Rattle.engine_types.specs.declared.Entry.{Entry}
use Rattle.engine_types.specs.declared.RunFault.{RunFault}
use Rattle.engine_types.specs.declared.RunLimits.{RunLimits}
use Rattle.ledger_run.proofs.Stepping.{exchanges_are}
use Rattle.run_model.specs.EngineRules.{Made, Paused, Step, TellsSteps}
use Rattle.run_model.specs.Observation.{is_up}
use Rattle.run_model.specs.Plans.{HasSmallNumbers, IsWhole}
use Rattle.run_model.specs.Runs.{IsRun, Task, run_fault, run_setup}
use Rattle.world_laws.proofs.ExactWorlds.{exact_in_each_world}
use Rattle.world_laws.proofs.GoneWorlds.{gone_in_each_world}
use Rattle.world_laws.proofs.ToldRuns.{told_runs_have_worlds}
use Rattle.world_laws.specs.OwnSpecs.{HasOwnSpecs}
use Rattle.project_run.specs.Whole.{IfBegun, IsFault, run_steps, task_of}
use Rattle.cut_laws.proofs.AcrossRuns.{made_once_after_runs}
use Rattle.cut_laws.proofs.Sparing.{run_spares_agreeing}
use Rattle.rolling_update.proofs.Counts.{rolls_at_most}
use Rattle.project_run.specs.Worlds.{EndsExact, EndsGone, GoesThrough, MakesOnce, RollsFew, SparesAgreeing}

-- a hand that tells no Engine goes on so
none_told : (steps : List Step) (now : Option Engine) → TellsSteps steps None now → now ≡ None
none_told [] now e = e
none_told (Made exchange ∷ steps) now t = none_told steps now (subst (λ (mid : Option Engine). TellsSteps steps mid now) t.1 t.2)
none_told (Paused milliseconds ∷ steps) now t = none_told steps now (subst (λ (mid : Option Engine). TellsSteps steps mid now) t.1 t.2)

module _ (declared : Declared) (aim : Aim) (limits : RunLimits) (journal : List Entry) (one : limits.workers ≡ 1) (whole : IsWhole declared) (run : IsRun (task_of declared aim limits) journal) where
  pub goes_through : (old new : Option Engine) → TellsSteps (run_steps (task_of declared aim limits) journal 0) old new → GoesThrough (task_of declared aim limits) journal old new
  goes_through None new told = none_told (run_steps (task_of declared aim limits) journal 0) new told
  goes_through (Some first) new told =
      told_runs_have_worlds (task_of declared aim limits) journal (run_steps (task_of declared aim limits) journal 0) first new one whole run
      (exchanges_are (run_setup (task_of declared aim limits) journal) (reverse journal) 0) told

  no_fault : (expected fault : Option RunFault) → IsFault expected fault → fault ≡ None → expected ≡ None
  no_fault expected fault (inl e) n = sym e ∙ n
  no_fault expected fault (inr e) n = let bad : Some RunFault.Memory ≡ None = sym e ∙ n in absurd (cc bad)

  pub ends_exact : (fault : Option RunFault) → IsFault (run_fault (task_of declared aim limits) journal) fault → fault ≡ None → is_up aim.purpose ≡ true → HasOwnSpecs declared
      → EndsExact (task_of declared aim limits) journal
  ends_exact fault is none up own first last moves world =
      exact_in_each_world (task_of declared aim limits) journal first last moves up whole own run (no_fault (run_fault (task_of declared aim limits) journal) fault is none) world

  pub ends_gone : (fault : Option RunFault) → IsFault (run_fault (task_of declared aim limits) journal) fault → fault ≡ None → is_up aim.purpose ≡ false
      → EndsGone (task_of declared aim limits) journal
  ends_gone fault is none down first last moves world =
      gone_in_each_world (task_of declared aim limits) journal first last moves down whole run (no_fault (run_fault (task_of declared aim limits) journal) fault is none) world

-- a fact on any journal
pub if_any : (journal : List Entry) {A : Type 0} → A → IfBegun journal A
if_any [] a = tt
if_any (entry ∷ rest) a = a

pub makes_once : (task : Task) (journal : List Entry) → is_up task.aim.purpose ≡ true → IsWhole task.declared → HasOwnSpecs task.declared → IsRun task journal → MakesOnce task journal
makes_once task journal up whole own run images first mid last earlier moves before world told slot m =
    made_once_after_runs task journal images first mid last earlier moves up whole own before run world told slot m

pub spares_agreeing : (task : Task) (journal : List Entry) → is_up task.aim.purpose ≡ true → IsWhole task.declared → HasOwnSpecs task.declared → IsRun task journal → SparesAgreeing task journal
spares_agreeing task journal up whole own run first last moves world = run_spares_agreeing task journal first last moves up whole own run world

pub rolls_few : (task : Task) (journal : List Entry) → is_up task.aim.purpose ≡ true → IsWhole task.declared → HasSmallNumbers task.declared → IsRun task journal → RollsFew task journal
rolls_few task journal up whole small run first last later moves service count world among by_roll uncrossed =
    rolls_at_most task journal first last later moves service count up whole small run.legal world among by_roll uncrossed
