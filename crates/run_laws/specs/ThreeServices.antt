-- Three services, where `web` waits for `db` to be healthy and for `mig` to complete, and a run in which `db` falls ill.
use Rattle.std.specs.Prelude.{ℕ, true, false, List, [], ◌∷◌, ◌++◌, Some, None, codes, pos}
use Rattle.engine_types.specs.declared.Condition.{Condition}
use Rattle.engine_types.specs.declared.ContainerState.{ContainerState}
use Rattle.engine_types.specs.declared.Declared.{Declared}
use Rattle.engine_types.specs.declared.DeclaredService.{DeclaredService}
use Rattle.engine_types.specs.declared.Entry.{Entry}
use Rattle.engine_types.specs.declared.Health.{Health}
use Rattle.engine_types.specs.declared.Need.{Need}
use Rattle.engine_types.specs.declared.Observed.{Observed}
use Rattle.engine_types.specs.declared.Outcome.{Outcome}
use Rattle.engine_types.specs.declared.Policy.{Policy}
use Rattle.engine_types.specs.declared.Reply.{Reply}
use Rattle.engine_types.specs.declared.Request.{Request}
use Rattle.engine_types.specs.declared.SeenEnd.{SeenEnd}
use Rattle.engine_types.specs.declared.Slot.{Slot}
use Rattle.run_laws.specs.OneService.{labels_of, plain_spec, service_of}
use Rattle.run_model.specs.Told.{answered}

-- the image of all three
abbrev pub busybox : List ℕ
busybox = codes "busybox"

-- a slot of the project with these needs
abbrev pub slot_of : List ℕ → List Need → Slot
slot_of service needs = record {
  service = service;
  number = 1;
  name = codes "shop-" ++ service ++ codes "-1";
  image = busybox;
  policy = Policy.Missing;
  has_build = false;
  hash = codes "abc";
  old_hash = codes "abc";
  spec = plain_spec (labels_of service (codes "abc")) busybox;
  attach = [];
  needs = needs;
  goal = Condition.Running;
  stop_seconds = 10;
}

-- the slot with a health check
abbrev pub db : Slot
db = record (slot_of (codes "db") []) {
  spec = record (plain_spec (labels_of (codes "db") (codes "abc")) busybox) {
    healthcheck = Some (record {
      test = Some (codes "CMD" ∷ codes "true" ∷ []);
      interval = None;
      timeout = None;
      start_period = None;
      retries = None;
    });
  };
  goal = Condition.Healthy;
}

-- the slot that waits for the other two
abbrev pub web : Slot
web =
    slot_of (codes "web")
    (record { slot = 0; condition = Condition.Healthy; required = true; restart = false }
    ∷ record { slot = 1; condition = Condition.Completed; required = true; restart = false } ∷ [])

-- the project of the three
abbrev pub shop : Declared
shop = record {
  project = codes "shop";
  slots = db ∷ slot_of (codes "mig") [] ∷ web ∷ [];
  services = services;
  networks = [];
  volumes = [];
}
  where
    services : List DeclaredService
    services = service_of (codes "db") ∷ service_of (codes "mig")
        ∷ record { key = codes "web"; depends_on = codes "db" ∷ codes "mig" ∷ []; roll = None } ∷ []

-- the image is there, and nothing else
abbrev pub seen_image : Observed
seen_image = record {
  exchanges =
      answered (Request.ListContainers (codes "shop")) (Reply.Containers [])
      ∷ answered (Request.Image busybox) (Reply.ImageId (codes "sha")) ∷ [];
  end = SeenEnd.Good (record {
    containers = [];
    networks = [];
    volumes = [];
    images = record { name = busybox; id = codes "sha" } ∷ [];
  });
}

-- the end of a poll by worker 0
abbrev pub reported : ContainerState → Health → Entry
reported state health = Entry.Ended 0 (Outcome.Answered (Reply.State (record {
  state = state;
  exit_code = pos 0;
  health = health;
})))

-- an action by worker 0, and its end
abbrev pub doing : ℕ → Reply → List Entry
doing a reply = Entry.Claim 0 a ∷ Entry.Ended 0 (Outcome.Answered reply) ∷ []

-- the run, oldest entry first: the three are created, `db` and `mig` are started, and `db` is reported healthy, `mig` running, and
-- `db` unhealthy. So `web` isn't started
abbrev pub falls_ill : List Entry
falls_ill =
    Entry.Seen seen_image ∷ []
    ++ doing 0 (Reply.Made (codes "c1")) ++ doing 1 (Reply.Made (codes "c2"))
    ++ doing 2 (Reply.Made (codes "c3"))
    ++ doing 3 Reply.Done ++ doing 4 Reply.Done
    ++ (Entry.Poll 0 0 ∷ reported ContainerState.Running Health.Healthy ∷ Entry.Poll 0 1
    ∷ reported ContainerState.Running Health.Absent
    ∷ Entry.Poll 0 0 ∷ reported ContainerState.Running Health.Unhealthy ∷ Entry.Leave 0 ∷ [])

-- two workers, oldest entry first: worker 0 looks at `db` and hasn't come back, while worker 1 looked at `mig` twice
abbrev pub one_stays_out : List Entry
one_stays_out =
    Entry.Seen seen_image ∷ []
    ++ doing 0 (Reply.Made (codes "c1")) ++ doing 1 (Reply.Made (codes "c2"))
    ++ doing 2 (Reply.Made (codes "c3"))
    ++ doing 3 Reply.Done ++ doing 4 Reply.Done
    ++ (Entry.Poll 0 0 ∷ Entry.Poll 1 1 ∷ still_running ∷ Entry.Poll 1 1 ∷ still_running ∷ [])
  where
    still_running : Entry
    still_running =
        Entry.Ended 1 (Outcome.Answered
        (Reply.State (record {
          state = ContainerState.Running;
          exit_code = pos 0;
          health = Health.Absent;
        })))
