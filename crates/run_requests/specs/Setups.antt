-- What a run is of, as definitions see it.
use Rattle.std.specs.Prelude.{List, false, None}
use Rattle.engine_types.specs.declared.Action.{Action}
use Rattle.engine_types.specs.declared.Declared.{Declared}
use Rattle.engine_types.specs.declared.Seen.{Seen}
use Rattle.run_model.specs.Journals.{Setup}
use Rattle.run_requests.specs.declared.run.Run.{Run}

-- the setup of a run
abbrev pub setup_of : Run → Setup
setup_of run = record {
  declared = run.declared.now;
  seen = run.seen.now;
  actions = run.plan.now.actions;
  limits = run.limits;
}

-- the setup of a run of one worker that waits for no goal, has no deadline, and lets each stop wait as its slot says
abbrev pub of_one_worker : Declared → Seen → List Action → Setup
of_one_worker declared seen actions = record {
  declared = declared;
  seen = seen;
  actions = actions;
  limits = record { workers = 1; deadline = None; wait = false; stop_seconds = None };
}
