-- Four services on one network, one of them with a volume, and the run that brings them up on a fresh Engine.
use Rattle.std.specs.Prelude.{ℕ, true, false, List, [], ◌∷◌, ◌++◌, Option, Some, None, codes}
use Rattle.engine_types.specs.declared.Action.{Action}
use Rattle.engine_types.specs.declared.ActionKind.{ActionKind}
use Rattle.engine_types.specs.declared.Condition.{Condition}
use Rattle.engine_types.specs.declared.ContainerState.{ContainerState}
use Rattle.engine_types.specs.declared.Declared.{Declared}
use Rattle.engine_types.specs.declared.Entry.{Entry}
use Rattle.engine_types.specs.declared.Exchange.{Exchange}
use Rattle.engine_types.specs.declared.Health.{Health}
use Rattle.engine_types.specs.declared.ImageRow.{ImageRow}
use Rattle.engine_types.specs.declared.Need.{Need}
use Rattle.engine_types.specs.declared.Observed.{Observed}
use Rattle.engine_types.specs.declared.Policy.{Policy}
use Rattle.engine_types.specs.declared.Reply.{Reply}
use Rattle.engine_types.specs.declared.Request.{Request}
use Rattle.engine_types.specs.declared.SeenEnd.{SeenEnd}
use Rattle.engine_types.specs.declared.Slot.{Slot}
use Rattle.engine_types.specs.declared.VolumeSpec.{VolumeSpec}
use Rattle.run_laws.specs.OneService.{labels_of, plain_spec, service_of}
use Rattle.run_model.specs.Told.{answered}
use Rattle.run_laws.specs.ThreeServices.{doing, reported}
use Rattle.run_laws.specs.TwoNetworks.{acts, network_of}

-- a slot with this image, these needs, and these binds
abbrev pub slot_of : List ℕ → List ℕ → List Need → Option (List (List ℕ)) → Slot
slot_of service image needs binds = record {
  service = service;
  number = 1;
  name = codes "shop-" ++ service ++ codes "-1";
  image = image;
  policy = Policy.Missing;
  has_build = false;
  hash = codes "abc";
  old_hash = codes "abc";
  spec = record (plain_spec (labels_of service (codes "abc")) image) {
    network_mode = Some (codes "shop_default");
    endpoints_config = Some (record { key = codes "shop_default"; aliases = service ∷ [] } ∷ []);
    binds = binds;
  };
  attach = record { network = 0; aliases = service ∷ [] } ∷ [];
  needs = needs;
  goal = Condition.Running;
  stop_seconds = 10;
}

-- a required need
abbrev pub requires : ℕ → Condition → Need
requires s condition = record { slot = s; condition = condition; required = true; restart = false }

-- the volume of the project
abbrev pub data_volume : VolumeSpec
data_volume = record {
  name = codes "shop_data";
  labels = [];
  driver = None;
  driver_opts = None;
  external = false;
}

-- the project: `mig` waits for `db` to be healthy, `web` for `cache` to be started and for `mig` to complete
abbrev pub shop : Declared
shop = record {
  project = codes "shop";
  slots =
      slot_of (codes "cache") (codes "redis:7") [] None
      ∷ slot_of (codes "db") (codes "postgres:16") [] (Some (codes "shop_data:/d:rw" ∷ []))
      ∷ slot_of (codes "mig") (codes "shop/web:2.1") (requires 1 Condition.Healthy ∷ []) None
      ∷ slot_of (codes "web") (codes "shop/web:2.1")
      (requires 0 Condition.Started ∷ requires 2 Condition.Completed ∷ []) None ∷ [];
  services =
      service_of (codes "cache") ∷ service_of (codes "db")
      ∷ record { key = codes "mig"; depends_on = codes "db" ∷ []; roll = None }
      ∷ record { key = codes "web"; depends_on = codes "cache" ∷ codes "mig" ∷ []; roll = None }
      ∷ [];
  networks = network_of (codes "default") ∷ [];
  volumes = data_volume ∷ [];
}

-- an image that isn't there, and is pulled
abbrev pub fetched : List ℕ → List Exchange
fetched image =
    answered (Request.Image image) (Reply.Refused 404 (codes "not found"))
    ∷ answered (Request.Pull image) Reply.Pulled
    ∷ answered (Request.Image image) (Reply.ImageId (codes "sha:" ++ image)) ∷ []

-- an image as it was seen
abbrev pub image_row : List ℕ → ImageRow
image_row image = record { name = image; id = codes "sha:" ++ image }

-- nothing is there, and three images are pulled
abbrev pub seen_fresh : Observed
seen_fresh = record {
  exchanges =
      answered (Request.ListContainers (codes "shop")) (Reply.Containers [])
      ∷ answered Request.ListNetworks (Reply.Networks [])
      ∷ answered Request.ListVolumes (Reply.Volumes [])
      ∷ fetched (codes "postgres:16") ++ fetched (codes "redis:7")
      ++ fetched (codes "shop/web:2.1");
  end = SeenEnd.Good (record {
    containers = [];
    networks = [];
    volumes = [];
    images =
        image_row (codes "postgres:16") ∷ image_row (codes "redis:7")
        ∷ image_row (codes "shop/web:2.1") ∷ [];
  });
}

-- the plan on a fresh Engine
abbrev pub fresh_plan : List Action
fresh_plan =
    acts (ActionKind.MakeVolume 0) [] ∷ acts (ActionKind.MakeNetwork 0) []
    ∷ acts (ActionKind.CreateSlot 0) (1 ∷ []) ∷ acts (ActionKind.CreateSlot 1) (0 ∷ 1 ∷ [])
    ∷ acts (ActionKind.CreateSlot 2) (1 ∷ []) ∷ acts (ActionKind.CreateSlot 3) (1 ∷ [])
    ∷ acts (ActionKind.StartSlot 0) (2 ∷ []) ∷ acts (ActionKind.StartSlot 1) (3 ∷ [])
    ∷ acts (ActionKind.StartSlot 2) (4 ∷ []) ∷ acts (ActionKind.StartSlot 3) (5 ∷ []) ∷ []

-- the run, oldest entry first: `db` is looked at before `mig` is started, and `mig` before `web` is
abbrev pub comes_up : List Entry
comes_up =
    Entry.Seen seen_fresh ∷ []
    ++ doing 0 Reply.Done ++ doing 1 (Reply.Made (codes "n1"))
    ++ doing 2 (Reply.Made (codes "c1")) ++ doing 3 (Reply.Made (codes "c2"))
    ++ doing 4 (Reply.Made (codes "c3")) ++ doing 5 (Reply.Made (codes "c4"))
    ++ doing 6 Reply.Done ++ doing 7 Reply.Done
    ++ (Entry.Poll 0 1 ∷ reported ContainerState.Running Health.Healthy ∷ []) ++ doing 8 Reply.Done
    ++ (Entry.Poll 0 2 ∷ reported ContainerState.Exited Health.Absent ∷ []) ++ doing 9 Reply.Done
    ++ (Entry.Leave 0 ∷ [])

-- what the run prints
abbrev pub report : List ℕ
report =
    codes "volume shop_data created\nnetwork shop_default created\n"
    ++ codes "container shop-cache-1 created\ncontainer shop-db-1 created\n"
    ++ codes "container shop-mig-1 created\ncontainer shop-web-1 created\n"
    ++ codes "container shop-cache-1 started\ncontainer shop-db-1 started\n"
    ++ codes "container shop-mig-1 started\ncontainer shop-web-1 started\n"
