-- Later runs of one service, and runs that end early.
use Rattle.std.specs.Prelude.{true, false, List, [], ◌∷◌, ◌++◌, Some, None, codes}
use Rattle.engine_types.specs.declared.Condition.{Condition}
use Rattle.engine_types.specs.declared.ContainerState.{ContainerState}
use Rattle.engine_types.specs.declared.Declared.{Declared}
use Rattle.engine_types.specs.declared.Entry.{Entry}
use Rattle.engine_types.specs.declared.Health.{Health}
use Rattle.engine_types.specs.declared.Healthcheck.{Healthcheck}
use Rattle.engine_types.specs.declared.LateWhy.{LateWhy}
use Rattle.engine_types.specs.declared.Listed.{Listed}
use Rattle.engine_types.specs.declared.Observed.{Observed}
use Rattle.engine_types.specs.declared.Purpose.{Purpose}
use Rattle.engine_types.specs.declared.Reply.{Reply}
use Rattle.engine_types.specs.declared.Request.{Request}
use Rattle.engine_types.specs.declared.SeenEnd.{SeenEnd}
use Rattle.engine_types.specs.declared.Slot.{Slot}
use Rattle.run_laws.specs.OneService.{labels_of, nginx, plain_limits, seen_fresh, shop, to_up, web}
use Rattle.run_model.specs.Told.{answered}
use Rattle.run_model.specs.Runs.{Task}
use Rattle.run_laws.specs.ThreeServices.{doing, reported}

-- the service's container, as it is listed while it runs
abbrev pub running : Listed
running = record {
  id = codes "c1";
  name = web.name;
  image_id = codes "sha";
  labels = labels_of (codes "web") (codes "abc");
  state = ContainerState.Running;
  networks = codes "none" ∷ [];
}

-- the container runs, and its image is there
abbrev pub seen_running : Observed
seen_running = record {
  exchanges =
      answered (Request.ListContainers (codes "shop")) (Reply.Containers (running ∷ []))
      ∷ answered (Request.Image nginx) (Reply.ImageId (codes "sha")) ∷ [];
  end = SeenEnd.Good (record {
    containers = running ∷ [];
    networks = [];
    volumes = [];
    images = record { name = nginx; id = codes "sha" } ∷ [];
  });
}

-- a second run finds nothing to do
abbrev pub comes_again : List Entry
comes_again = Entry.Seen seen_running ∷ Entry.Leave 0 ∷ []

-- to take a project down with one worker
abbrev pub downing : Declared → Task
downing declared = record {
  declared = declared;
  aim = record { purpose = Purpose.Down; orphans = false; volumes = false };
  limits = plain_limits;
}

-- the container is stopped and removed
abbrev pub goes_down : List Entry
goes_down =
    Entry.Seen (record {
      exchanges =
          answered (Request.ListContainers (codes "shop")) (Reply.Containers (running ∷ [])) ∷ [];
      end = SeenEnd.Good (record {
        containers = running ∷ [];
        networks = [];
        volumes = [];
        images = [];
      });
    }) ∷ []
    ++ doing 0 Reply.Done ++ doing 1 Reply.Done ++ (Entry.Leave 0 ∷ [])

-- the service with a health check
abbrev pub checked : Declared
checked = record shop { slots = watched ∷ [] }
  where
    check : Healthcheck
    check = record {
      test = Some (codes "CMD" ∷ codes "true" ∷ []);
      interval = None;
      timeout = None;
      start_period = None;
      retries = None;
    }

    watched : Slot
    watched = record web {
      spec = record web.spec { healthcheck = Some check };
      goal = Condition.Healthy;
    }

-- to bring a project up and wait for it, for one second
abbrev pub waiting : Declared → Task
waiting declared = record {
  declared = declared;
  aim = to_up;
  limits = record plain_limits { wait = true; deadline = Some 1000 };
}

-- the container starts, and isn't healthy after one second
abbrev pub runs_late : List Entry
runs_late =
    Entry.Seen seen_fresh ∷ [] ++ doing 0 (Reply.Made (codes "c1")) ++ doing 1 Reply.Done
    ++ (Entry.Poll 0 0 ∷ reported ContainerState.Running Health.Starting ∷ Entry.Poll 0 0
    ∷ reported ContainerState.Running Health.Starting
    ∷ Entry.Late 0 (LateWhy.Deadline 1000) ∷ Entry.Leave 0 ∷ [])

-- the worker is asked to stop before it begins
abbrev pub is_stopped : List Entry
is_stopped = Entry.Seen seen_fresh ∷ Entry.Stop 0 ∷ Entry.Leave 0 ∷ []

-- the worker finds no memory for its first claim
abbrev pub runs_short : List Entry
runs_short = Entry.Seen seen_fresh ∷ Entry.Short 0 ∷ []
