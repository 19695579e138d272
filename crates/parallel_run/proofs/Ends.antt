-- What a run leaves in the Engine: it holds exactly what is declared after `up`, and nothing of it after `down`.
use Rattle.std.proofs.Common.{◌≡◌, List, Option, Some, None, true, false, sym, ◌∙◌, inl, inr}
use Rattle.engine_types.specs.declared.Entry.{Entry}
use Rattle.engine_types.specs.declared.RunFault.{RunFault}
use Rattle.project_run.specs.Whole.{IsFault}
use Rattle.project_run.specs.Worlds.{EndsExact, EndsGone}
use Rattle.run_model.specs.Observation.{is_up}
use Rattle.run_model.specs.Plans.{IsWhole}
use Rattle.run_model.specs.Runs.{IsRun, Task, run_fault}
use Rattle.world_laws.proofs.ExactWorlds.{exact_in_each_world}
use Rattle.world_laws.proofs.GoneWorlds.{gone_in_each_world}
use Rattle.world_laws.specs.OwnSpecs.{HasOwnSpecs}

-- where no fault is told there is none
no_fault : (expected fault : Option RunFault) → IsFault expected fault → fault ≡ None → expected ≡ None
no_fault expected fault (inl e) n = sym e ∙ n
no_fault expected fault (inr e) n = let bad : Some RunFault.Memory ≡ None = sym e ∙ n in absurd (cc bad)

module _ (task : Task) (journal : List Entry) (whole : IsWhole task.declared) (run : IsRun task journal) (fault : Option RunFault) (is : IsFault (run_fault task journal) fault) where
  pub ends_exact : fault ≡ None → is_up task.aim.purpose ≡ true → HasOwnSpecs task.declared → EndsExact task journal
  ends_exact none up own first last moves world = exact_in_each_world task journal first last moves up whole own run (no_fault (run_fault task journal) fault is none) world

  pub ends_gone : fault ≡ None → is_up task.aim.purpose ≡ false → EndsGone task journal
  ends_gone none down first last moves world = gone_in_each_world task journal first last moves down whole run (no_fault (run_fault task journal) fault is none) world
