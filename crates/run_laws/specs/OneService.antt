-- One service, `web` with the image `nginx:1.25` and no network, and runs of it.
use Rattle.std.specs.Prelude.{ℕ, false, List, [], ◌∷◌, Some, None, codes}
use Rattle.engine_types.specs.declared.Aim.{Aim}
use Rattle.tree_base.specs.declared.Var.{Var}
use Rattle.engine_types.specs.Labels as the
use Rattle.engine_types.specs.Specs.{empty_spec}
use Rattle.engine_types.specs.declared.Condition.{Condition}
use Rattle.engine_types.specs.declared.ContainerSpec.{ContainerSpec}
use Rattle.engine_types.specs.declared.Declared.{Declared}
use Rattle.engine_types.specs.declared.DeclaredService.{DeclaredService}
use Rattle.engine_types.specs.declared.Entry.{Entry}
use Rattle.engine_types.specs.declared.Observed.{Observed}
use Rattle.engine_types.specs.declared.Outcome.{Outcome}
use Rattle.engine_types.specs.declared.Policy.{Policy}
use Rattle.engine_types.specs.declared.Purpose.{Purpose}
use Rattle.engine_types.specs.declared.Reply.{Reply}
use Rattle.engine_types.specs.declared.Request.{Request}
use Rattle.engine_types.specs.declared.RunLimits.{RunLimits}
use Rattle.engine_types.specs.declared.SeenEnd.{SeenEnd}
use Rattle.engine_types.specs.declared.SeenFault.{SeenFault}
use Rattle.engine_types.specs.declared.Slot.{Slot}
use Rattle.run_model.specs.Runs.{Task}
use Rattle.run_model.specs.Told.{answered}

-- the labels of a service's first container in the project `shop`
abbrev pub labels_of : List ℕ → List ℕ → List Var
labels_of service hash =
    record { name = the.hash_label; value = hash }
    ∷ record { name = the.number_label; value = codes "1" }
    ∷ record { name = the.oneoff_label; value = the.not_oneoff }
    ∷ record { name = the.project_label; value = codes "shop" }
    ∷ record { name = the.service_label; value = service } ∷ []

-- what the Engine is sent of a service with an image and no network
abbrev pub plain_spec : List Var → List ℕ → ContainerSpec
plain_spec labels image =
    record empty_spec { labels = labels; image = Some image; network_mode = Some (codes "none") }

-- the image
abbrev pub nginx : List ℕ
nginx = codes "nginx:1.25"

-- the service's slot; the hash stands for both of the configuration
abbrev pub web : Slot
web = record {
  service = codes "web";
  number = 1;
  name = codes "shop-web-1";
  image = nginx;
  policy = Policy.Missing;
  has_build = false;
  hash = codes "abc";
  old_hash = codes "abc";
  spec = plain_spec (labels_of (codes "web") (codes "abc")) nginx;
  attach = [];
  needs = [];
  goal = Condition.Running;
  stop_seconds = 10;
}

-- a service that depends on no other one and is replaced at once
abbrev pub service_of : List ℕ → DeclaredService
service_of key = record { key = key; depends_on = []; roll = None }

-- the project `shop`, which declares `web` alone
abbrev pub shop : Declared
shop = record {
  project = codes "shop";
  slots = web ∷ [];
  services = service_of (codes "web") ∷ [];
  networks = [];
  volumes = [];
}

-- one worker, no deadline, and no waiting for goals
abbrev pub plain_limits : RunLimits
plain_limits = record { workers = 1; deadline = None; wait = false; stop_seconds = None }

-- to bring the project up, and leave orphans alone
abbrev pub to_up : Aim
to_up = record { purpose = Purpose.Up; orphans = false; volumes = false }

-- to bring a project up with one worker
abbrev pub upping : Declared → Task
upping declared = record { declared = declared; aim = to_up; limits = plain_limits }

-- the same with two workers
abbrev pub upping_by_two : Declared → Task
upping_by_two declared = record {
  declared = declared;
  aim = to_up;
  limits = record plain_limits { workers = 2 };
}

-- the image isn't there, and is pulled
abbrev pub seen_fresh : Observed
seen_fresh = record {
  exchanges = answered (Request.ListContainers (codes "shop")) (Reply.Containers [])
      ∷ answered (Request.Image nginx) (Reply.Refused 404 (codes "not found"))
      ∷ answered (Request.Pull nginx) Reply.Pulled
      ∷ answered (Request.Image nginx) (Reply.ImageId (codes "sha")) ∷ [];
  end = SeenEnd.Good (record {
    containers = [];
    networks = [];
    volumes = [];
    images = record { name = nginx; id = codes "sha" } ∷ [];
  });
}

-- the run on a fresh Engine, oldest entry first: the container is created and started
abbrev pub comes_up : List Entry
comes_up =
    Entry.Seen seen_fresh ∷ Entry.Claim 0 0
    ∷ Entry.Ended 0 (Outcome.Answered (Reply.Made (codes "c1")))
    ∷ Entry.Claim 0 1 ∷ Entry.Ended 0 (Outcome.Answered Reply.Done) ∷ Entry.Leave 0 ∷ []

-- the run on an Engine where another container has the name: the create is refused, and the start is blocked
abbrev pub name_in_use : List Entry
name_in_use =
    Entry.Seen seen_fresh ∷ Entry.Claim 0 0
    ∷ Entry.Ended 0 (Outcome.Answered (Reply.Refused 409 (codes "conflict"))) ∷ Entry.Leave 0 ∷ []

-- an observation that can't pull the image
abbrev pub seen_no_image : Observed
seen_no_image = record {
  exchanges = answered (Request.ListContainers (codes "shop")) (Reply.Containers [])
      ∷ answered (Request.Image nginx) (Reply.Refused 404 (codes "not found"))
      ∷ answered (Request.Pull nginx) (Reply.Refused 404 (codes "not found")) ∷ [];
  end = SeenEnd.Bad (SeenFault.RequestFailed (Request.Pull nginx) 404 (codes "not found"));
}

-- the run on an Engine that has no such image to pull
abbrev pub no_image : List Entry
no_image = Entry.Seen seen_no_image ∷ []

-- worker 0 creates the container, and hasn't come back
abbrev pub creates_still : List Entry
creates_still = Entry.Seen seen_fresh ∷ Entry.Claim 0 0 ∷ []
