-- The project `shop`, which declares a volume alone, and two runs that bring it up on a fresh Engine in memory.
use Rattle.std.specs.Prelude.{false, List, [], ◌∷◌, Some, None, codes, true}
use Rattle.engine_types.specs.Labels as the
use Rattle.engine_types.specs.declared.Declared.{Declared}
use Rattle.engine_types.specs.declared.Entry.{Entry}
use Rattle.engine_types.specs.declared.Observed.{Observed}
use Rattle.engine_types.specs.declared.Outcome.{Outcome}
use Rattle.engine_types.specs.declared.Purpose.{Purpose}
use Rattle.engine_types.specs.declared.Reply.{Reply}
use Rattle.engine_types.specs.declared.Request.{Request}
use Rattle.engine_types.specs.declared.SeenEnd.{SeenEnd}
use Rattle.engine_types.specs.declared.VolumeSpec.{VolumeSpec}
use Rattle.engine_types.specs.declared.WireEnd.{WireEnd}
use Rattle.memory_engine.specs.declared.faults.FaultPlan.{FaultPlan}
use Rattle.run_model.specs.Runs.{Task, unseen}
use Rattle.run_model.specs.Told.{answered}
use Rattle.deterministic_runs.specs.Allowed.{Stand}

-- the volume
abbrev pub data_volume : VolumeSpec
data_volume = record {
  name = codes "shop_data";
  labels =
      record { name = the.project_label; value = codes "shop" }
      ∷ record { name = the.volume_label; value = codes "data" } ∷ [];
  driver = None;
  driver_opts = None;
  external = false;
}

-- what the project declares
abbrev pub shop : Declared
shop = record {
  project = codes "shop";
  slots = [];
  services = [];
  networks = [];
  volumes = data_volume ∷ [];
}

-- to bring it up with one worker, without a deadline
abbrev pub upping : Task
upping = record {
  declared = shop;
  aim = record { purpose = Purpose.Up; orphans = false; volumes = false };
  limits = record { workers = 1; deadline = None; wait = false; stop_seconds = None };
}

-- an Engine that holds nothing, before its first exchange
abbrev pub fresh : Stand
fresh = record {
  engine = record { containers = []; networks = []; volumes = []; images = []; next = 1 };
  made = 0;
}

-- nothing goes wrong
abbrev pub faultless : FaultPlan
faultless = record { lost = []; unsent = []; asked_from = None }

-- the reply to the third exchange is lost, behind which every worker is asked to stop
abbrev pub loses_third : FaultPlan
loses_third = record {
  lost = record { exchange = 3; effect = true } ∷ [];
  unsent = [];
  asked_from = Some 3;
}

-- nothing is seen
abbrev pub seen_nothing : Observed
seen_nothing = record {
  exchanges = answered (Request.ListContainers (codes "shop")) (Reply.Containers [])
      ∷ answered Request.ListVolumes (Reply.Volumes []) ∷ [];
  end = SeenEnd.Good unseen;
}

-- the volume is made, and the worker leaves
abbrev pub makes_volume : List Entry
makes_volume =
    Entry.Seen seen_nothing ∷ Entry.Claim 0 0 ∷ Entry.Ended 0 (Outcome.Answered Reply.Done)
    ∷ Entry.Leave 0 ∷ []

-- the reply is lost, and the worker is asked to stop, and leaves
abbrev pub loses_volume : List Entry
loses_volume =
    Entry.Seen seen_nothing ∷ Entry.Claim 0 0 ∷ Entry.Ended 0 (Outcome.Lost WireEnd.Fault)
    ∷ Entry.Stop 0 ∷ Entry.Leave 0 ∷ []

-- the worker stops before it has done anything
abbrev pub stops_early : List Entry
stops_early = Entry.Seen seen_nothing ∷ Entry.Stop 0 ∷ Entry.Leave 0 ∷ []
