-- Two services, where `web` waits for `db` to be healthy, on an Engine that has their image and nothing else.
use Rattle.std.specs.Prelude.{ℕ, true, false, List, [], ◌∷◌, ◌++◌, Some, None, codes}
use Rattle.engine_types.specs.declared.Aim.{Aim}
use Rattle.engine_types.specs.Specs.{empty_spec}
use Rattle.engine_types.specs.declared.Action.{Action}
use Rattle.engine_types.specs.declared.ActionKind.{ActionKind}
use Rattle.engine_types.specs.declared.Condition.{Condition}
use Rattle.engine_types.specs.declared.Declared.{Declared}
use Rattle.engine_types.specs.declared.DeclaredService.{DeclaredService}
use Rattle.engine_types.specs.declared.Need.{Need}
use Rattle.engine_types.specs.declared.Observed.{Observed}
use Rattle.engine_types.specs.declared.Plan.{Plan}
use Rattle.engine_types.specs.declared.Policy.{Policy}
use Rattle.engine_types.specs.declared.Purpose.{Purpose}
use Rattle.engine_types.specs.declared.Reply.{Reply}
use Rattle.engine_types.specs.declared.Request.{Request}
use Rattle.engine_types.specs.declared.RunLimits.{RunLimits}
use Rattle.engine_types.specs.declared.Seen.{Seen}
use Rattle.engine_types.specs.declared.SeenEnd.{SeenEnd}
use Rattle.engine_types.specs.declared.Slot.{Slot}
use Rattle.run_model.specs.Told.{answered}

-- a slot of the project with these needs
abbrev pub slot_of : List ℕ → Condition → List Need → Slot
slot_of service goal needs = record {
  service = service;
  number = 1;
  name = codes "shop-" ++ service ++ codes "-1";
  image = codes "busybox";
  policy = Policy.Missing;
  has_build = false;
  hash = codes "abc";
  old_hash = codes "abc";
  spec = record empty_spec { image = Some (codes "busybox") };
  attach = [];
  needs = needs;
  goal = goal;
  stop_seconds = 10;
}

-- the slot that the other one waits for
abbrev pub db : Slot
db = slot_of (codes "db") Condition.Healthy []

-- what the other one waits for
abbrev pub healthy_db : Need
healthy_db = record { slot = 0; condition = Condition.Healthy; required = true; restart = false }

-- the slot that waits
abbrev pub web : Slot
web = slot_of (codes "web") Condition.Running (healthy_db ∷ [])

-- the service of the first slot
abbrev pub db_service : DeclaredService
db_service = record { key = codes "db"; depends_on = []; roll = None }

-- the service of the second one
abbrev pub web_service : DeclaredService
web_service = record { key = codes "web"; depends_on = codes "db" ∷ []; roll = None }

-- the project of the two
abbrev pub shop : Declared
shop = record {
  project = codes "shop";
  slots = db ∷ web ∷ [];
  services = db_service ∷ web_service ∷ [];
  networks = [];
  volumes = [];
}

-- the image, and nothing else
abbrev pub found : Seen
found = record {
  containers = [];
  networks = [];
  volumes = [];
  images = record { name = codes "busybox"; id = codes "sha" } ∷ [];
}

-- the observation that found it
abbrev pub seen : Observed
seen = record {
  exchanges =
      answered (Request.ListContainers (codes "shop")) (Reply.Containers [])
      ∷ answered (Request.Image (codes "busybox")) (Reply.ImageId (codes "sha")) ∷ [];
  end = SeenEnd.Good found;
}

-- to bring the project up, and leave orphans alone
abbrev pub to_up : Aim
to_up = record { purpose = Purpose.Up; orphans = false; volumes = false }

-- both containers are created, and each is started after its create
abbrev pub plan : Plan
plan = record { actions = actions; kept = None ∷ None ∷ [] }
  where
    actions : List Action
    actions =
        record { kind = ActionKind.CreateSlot 0; needs = [] }
        ∷ record { kind = ActionKind.CreateSlot 1; needs = [] }
        ∷ record { kind = ActionKind.StartSlot 0; needs = 0 ∷ [] }
        ∷ record { kind = ActionKind.StartSlot 1; needs = 1 ∷ [] } ∷ []

-- two workers, no deadline, and waiting for goals
abbrev pub limits : RunLimits
limits = record { workers = 2; deadline = None; wait = true; stop_seconds = None }
