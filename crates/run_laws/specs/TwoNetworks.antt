-- One service, `web`, on the networks `a` and `b`, and what an Engine may show of it.
use Rattle.std.specs.Prelude.{ℕ, true, false, List, [], ◌∷◌, ◌++◌, Some, None, codes}
use Rattle.tree_base.specs.declared.Var.{Var}
use Rattle.engine_types.specs.Labels as the
use Rattle.engine_types.specs.declared.Action.{Action}
use Rattle.engine_types.specs.declared.ActionKind.{ActionKind}
use Rattle.engine_types.specs.declared.ContainerState.{ContainerState}
use Rattle.engine_types.specs.declared.Declared.{Declared}
use Rattle.engine_types.specs.declared.Entry.{Entry}
use Rattle.engine_types.specs.declared.Exchange.{Exchange}
use Rattle.engine_types.specs.declared.Listed.{Listed}
use Rattle.engine_types.specs.declared.NetRow.{NetRow}
use Rattle.engine_types.specs.declared.NetworkSpec.{NetworkSpec}
use Rattle.engine_types.specs.declared.Observed.{Observed}
use Rattle.engine_types.specs.declared.Outcome.{Outcome}
use Rattle.engine_types.specs.declared.Policy.{Policy}
use Rattle.engine_types.specs.declared.Reply.{Reply}
use Rattle.engine_types.specs.declared.Request.{Request}
use Rattle.engine_types.specs.declared.Seen.{Seen}
use Rattle.engine_types.specs.declared.SeenEnd.{SeenEnd}
use Rattle.engine_types.specs.declared.Slot.{Slot}
use Rattle.engine_types.specs.declared.WireEnd.{WireEnd}
use Rattle.run_laws.specs.OneService.{labels_of, nginx, plain_spec, service_of}
use Rattle.run_model.specs.Told.{answered}

-- the labels of a network of the project `shop`
abbrev pub network_labels : List ℕ → List Var
network_labels key =
    record { name = the.network_label; value = key }
    ∷ record { name = the.project_label; value = codes "shop" } ∷ []

-- a network of the project
abbrev pub network_of : List ℕ → NetworkSpec
network_of key = record {
  name = codes "shop_" ++ key;
  labels = network_labels key;
  driver = None;
  internal = None;
  attachable = None;
  enable_ipv6 = None;
  options = None;
  external = false;
}

-- what the Engine is sent: the first network stands in the create
abbrev pub web : Slot
web = record Rattle.run_laws.specs.OneService.web {
  spec = record (plain_spec (labels_of (codes "web") (codes "abc")) nginx) {
    network_mode = Some (codes "shop_a");
    endpoints_config = Some (record { key = codes "shop_a"; aliases = codes "web" ∷ [] } ∷ []);
  };
  attach =
      record { network = 0; aliases = codes "web" ∷ [] }
      ∷ record { network = 1; aliases = codes "web" ∷ [] } ∷ [];
}

-- the project, which declares `web` and both networks
abbrev pub shop : Declared
shop = record {
  project = codes "shop";
  slots = web ∷ [];
  services = service_of (codes "web") ∷ [];
  networks = network_of (codes "a") ∷ network_of (codes "b") ∷ [];
  volumes = [];
}

-- a row of a listing of networks
abbrev pub network_row : List ℕ → List ℕ → NetRow
network_row id key = record { id = id; name = codes "shop_" ++ key; labels = network_labels key }

-- both networks, as they are listed
abbrev pub both : List NetRow
both = network_row (codes "n1") (codes "a") ∷ network_row (codes "n2") (codes "b") ∷ []

-- the service's container, as it is listed, in this state and on these networks
abbrev pub listed : ContainerState → List (List ℕ) → Listed
listed state networks = record {
  id = codes "c1";
  name = web.name;
  image_id = codes "sha";
  labels = labels_of (codes "web") (codes "abc");
  state = state;
  networks = networks;
}

-- what was seen: these containers and networks, and the image with this id
abbrev pub seeing : List Listed → List NetRow → List ℕ → Seen
seeing containers networks id = record {
  containers = containers;
  networks = networks;
  volumes = [];
  images = record { name = nginx; id = id } ∷ [];
}

-- an observation of these, where the image is there
abbrev pub seen_as : List Listed → List NetRow → Observed
seen_as containers networks = record {
  exchanges = answered (Request.ListContainers (codes "shop")) (Reply.Containers containers)
      ∷ answered Request.ListNetworks (Reply.Networks networks)
      ∷ answered (Request.Image nginx) (Reply.ImageId (codes "sha")) ∷ [];
  end = SeenEnd.Good (seeing containers networks (codes "sha"));
}

-- an action with its needs
abbrev pub acts : ActionKind → List ℕ → Action
acts kind needs = record { kind = kind; needs = needs }

-- the plan on a fresh Engine
abbrev pub fresh_plan : List Action
fresh_plan =
    acts (ActionKind.MakeNetwork 0) [] ∷ acts (ActionKind.MakeNetwork 1) []
    ∷ acts (ActionKind.CreateSlot 0) (0 ∷ 1 ∷ [])
    ∷ acts (ActionKind.ConnectSlot 0 1) (1 ∷ 2 ∷ []) ∷ acts (ActionKind.StartSlot 0) (2 ∷ 3 ∷ [])
    ∷ []

-- the plan where the container was created on the first network
abbrev pub created_plan : List Action
created_plan = acts (ActionKind.ConnectSlot 0 1) [] ∷ acts (ActionKind.StartSlot 0) (0 ∷ []) ∷ []

-- the plan where the container's image is another one by now
abbrev pub image_plan : List Action
image_plan =
    acts (ActionKind.StopContainer 0) [] ∷ acts (ActionKind.RemoveContainer 0) (0 ∷ [])
    ∷ acts (ActionKind.CreateSlot 0) (1 ∷ [])
    ∷ acts (ActionKind.ConnectSlot 0 1) (2 ∷ []) ∷ acts (ActionKind.StartSlot 0) (2 ∷ 3 ∷ []) ∷ []

-- the plan of `down`
abbrev pub down_plan : List Action
down_plan =
    acts (ActionKind.StopContainer 0) [] ∷ acts (ActionKind.RemoveContainer 0) (0 ∷ [])
    ∷ acts (ActionKind.RemoveNetwork 0) (1 ∷ [])
    ∷ acts (ActionKind.RemoveNetwork 1) (1 ∷ []) ∷ []

-- a run whose create is lost, oldest entry first: both networks are made, and nothing is sent after the create
abbrev pub loses_create : List Entry
loses_create =
    Entry.Seen (seen_as [] [])
    ∷ Entry.Claim 0 0 ∷ Entry.Ended 0 (Outcome.Answered (Reply.Made (codes "n1")))
    ∷ Entry.Claim 0 1 ∷ Entry.Ended 0 (Outcome.Answered (Reply.Made (codes "n2")))
    ∷ Entry.Claim 0 2 ∷ Entry.Ended 0 (Outcome.Lost WireEnd.Fault) ∷ Entry.Leave 0 ∷ []

-- the next run: the container is there, is connected to the second network, and started
abbrev pub connects : List Entry
connects =
    Entry.Seen (seen_as (listed ContainerState.Created (codes "shop_a" ∷ []) ∷ []) both)
    ∷ Entry.Claim 0 0 ∷ Entry.Ended 0 (Outcome.Answered Reply.Done)
    ∷ Entry.Claim 0 1 ∷ Entry.Ended 0 (Outcome.Answered Reply.Done) ∷ Entry.Leave 0 ∷ []

-- the listings of an observation of the project
abbrev pub listings : List NetRow → List Exchange
listings networks =
    answered (Request.ListContainers (codes "shop")) (Reply.Containers [])
    ∷ answered Request.ListNetworks (Reply.Networks networks) ∷ []

-- the same project, whose network `a` is external
abbrev pub with_external : Declared
with_external = record shop {
  networks = record (network_of (codes "a")) { external = true } ∷ network_of (codes "b") ∷ [];
}

-- the same project, whose service can be built
abbrev pub with_build : Declared
with_build = record shop { slots = record web { has_build = true } ∷ [] }

-- the same project, whose image is always pulled
abbrev pub with_pull : Declared
with_pull = record shop { slots = record web { policy = Policy.Always } ∷ [] }
