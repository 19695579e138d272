-- Projects whose containers have to be replaced: a service that starts anew where the one that it depends on is updated, a
-- service of three slots that is replaced slot by slot, and services that go down one after the other.
use Rattle.std.specs.Prelude.{ℕ, true, false, List, [], ◌∷◌, ◌++◌, Option, None, codes, decimal}
use Rattle.tree_base.specs.declared.Var.{Var}
use Rattle.engine_types.specs.Labels as the
use Rattle.engine_types.specs.declared.Action.{Action}
use Rattle.engine_types.specs.declared.ActionKind.TheVariants.{CreateSlot, RemoveContainer, StartSlot, StopContainer, StopKept}
use Rattle.engine_types.specs.declared.Condition.{Condition}
use Rattle.engine_types.specs.declared.ContainerState.{ContainerState}
use Rattle.engine_types.specs.declared.Declared.{Declared}
use Rattle.engine_types.specs.declared.Entry.{Entry}
use Rattle.engine_types.specs.declared.Listed.{Listed}
use Rattle.engine_types.specs.declared.Observed.{Observed}
use Rattle.engine_types.specs.declared.Reply.{Reply}
use Rattle.engine_types.specs.declared.Request.{Request}
use Rattle.engine_types.specs.declared.Seen.{Seen}
use Rattle.engine_types.specs.declared.SeenEnd.{SeenEnd}
use Rattle.engine_types.specs.declared.Slot.{Slot}
use Rattle.run_laws.specs.OneService.{labels_of, service_of}
use Rattle.run_model.specs.Plans.{Basis, basis_of, down_aim, up_aim}
use Rattle.run_laws.specs.ThreeServices as three
use Rattle.run_model.specs.Told.{answered}
use Rattle.run_laws.specs.TwoNetworks.{acts}

-- a running container of a service's slot with this id, number and image
abbrev pub running : List ℕ → List ℕ → ℕ → List ℕ → Listed
running id service number image = record {
  id = id;
  name = codes "shop-" ++ service ++ codes "-" ++ decimal number;
  image_id = image;
  labels =
      record { name = the.number_label; value = decimal number }
      ∷ labels_of service (codes "abc");
  state = ContainerState.Running;
  networks = codes "none" ∷ [];
}

-- `web` starts anew where `db` is replaced
abbrev pub restarting : Declared
restarting = record {
  project = codes "shop";
  slots =
      record (three.slot_of (codes "db") []) { image = codes "d:1" }
      ∷ record (three.slot_of (codes "web")
      (record { slot = 0; condition = Condition.Started; required = true; restart = true } ∷ [])) {
        image = codes "w:1";
      } ∷ [];
  services =
      service_of (codes "db")
      ∷ record { key = codes "web"; depends_on = codes "db" ∷ []; roll = None } ∷ [];
  networks = [];
  volumes = [];
}

-- both run, and the image of `db` is another one by now
abbrev pub seen_both : Observed
seen_both = record {
  exchanges =
      answered (Request.ListContainers (codes "shop")) (Reply.Containers rows)
      ∷ answered (Request.Image (codes "d:1")) (Reply.ImageId (codes "new"))
      ∷ answered (Request.Image (codes "w:1")) (Reply.ImageId (codes "sha")) ∷ [];
  end = SeenEnd.Good (record {
    containers = rows;
    networks = [];
    volumes = [];
    images =
        record { name = codes "d:1"; id = codes "new" }
        ∷ record { name = codes "w:1"; id = codes "sha" } ∷ [];
  });
}
  where
    rows : List Listed
    rows =
        running (codes "c1") (codes "db") 1 (codes "sha")
        ∷ running (codes "c2") (codes "web") 1 (codes "sha") ∷ []

-- the plan: `db` is replaced and started, then `web` is stopped and started
abbrev pub restarting_plan : List Action
restarting_plan =
    acts (StopContainer 0) [] ∷ acts (RemoveContainer 0) (0 ∷ []) ∷ acts (CreateSlot 0) (1 ∷ [])
    ∷ acts (StopKept 1) (4 ∷ []) ∷ acts (StartSlot 0) (2 ∷ []) ∷ acts (StartSlot 1) (3 ∷ []) ∷ []

-- the run by one worker, oldest entry first
abbrev pub restarts : List Entry
restarts =
    Entry.Seen seen_both ∷ []
    ++ three.doing 0 Reply.Done ++ three.doing 1 Reply.Done
    ++ three.doing 2 (Reply.Made (codes "c3")) ++ three.doing 4 Reply.Done
    ++ three.doing 3 Reply.Done ++ three.doing 5 Reply.Done ++ (Entry.Leave 0 ∷ [])

-- the slot of `web` with this number
abbrev pub web_at : ℕ → Slot
web_at number = record (three.slot_of (codes "web") []) {
  number = number;
  name = codes "shop-web-" ++ decimal number;
}

-- `web` with three slots, of which so many are replaced at a time
abbrev pub rolling : Option ℕ → Declared
rolling roll = record {
  project = codes "shop";
  slots = web_at 1 ∷ web_at 2 ∷ web_at 3 ∷ [];
  services = record { key = codes "web"; depends_on = []; roll = roll } ∷ [];
  networks = [];
  volumes = [];
}

-- the three run, in the order of their slots, and their image is another one by now
abbrev pub seen_three : Seen
seen_three = record {
  containers = at 1 ∷ at 2 ∷ at 3 ∷ [];
  networks = [];
  volumes = [];
  images = record { name = three.busybox; id = codes "new" } ∷ [];
}
  where
    at : ℕ → Listed
    at number = running (codes "c" ++ decimal number) (codes "web") number (codes "sha")

-- what the run is made from that replaces so many at a time
abbrev pub rolls : Option ℕ → Basis
rolls roll = basis_of (rolling roll) seen_three (up_aim false)

-- the actions that replace all three; these are the needs of the second and the third stop, and of the starts
abbrev pub replacing : List ℕ → List ℕ → List ℕ → List ℕ → List ℕ → List Action
replacing second third start_first start_second start_third =
    acts (StopContainer 0) [] ∷ acts (RemoveContainer 0) (0 ∷ []) ∷ acts (StopContainer 1) second
    ∷ acts (RemoveContainer 1) (2 ∷ [])
    ∷ acts (StopContainer 2) third ∷ acts (RemoveContainer 2) (4 ∷ [])
    ∷ acts (CreateSlot 0) (1 ∷ []) ∷ acts (CreateSlot 1) (3 ∷ []) ∷ acts (CreateSlot 2) (5 ∷ [])
    ∷ acts (StartSlot 0) start_first ∷ acts (StartSlot 1) start_second
    ∷ acts (StartSlot 2) start_third ∷ []

-- `db`, on which `web` depends, where `web` has no slot any more
abbrev pub scaled_down : Declared
scaled_down = record restarting {
  slots = record (three.slot_of (codes "db") []) { image = codes "d:1" } ∷ [];
}

-- what is there while both run
abbrev pub both_there : Seen
both_there = record {
  containers =
      running (codes "c1") (codes "db") 1 (codes "sha")
      ∷ running (codes "c2") (codes "web") 1 (codes "sha") ∷ [];
  networks = [];
  volumes = [];
  images = [];
}

-- the plan of `down`: `web` goes before `db` is stopped
abbrev pub down_plan : List Action
down_plan =
    acts (StopContainer 0) (3 ∷ []) ∷ acts (RemoveContainer 0) (0 ∷ []) ∷ acts (StopContainer 1) []
    ∷ acts (RemoveContainer 1) (2 ∷ []) ∷ []

-- what `down` is planned from
abbrev pub downs : Basis
downs = basis_of scaled_down both_there (down_aim false false)

-- a slot whose two hashes differ
abbrev pub rehashed : Slot
rehashed = record (three.slot_of (codes "web") []) { hash = codes "new" }

-- the labels of a container that says that its hash has the version 2
abbrev pub labels_of_two : List ℕ → List Var
labels_of_two hash =
    record { name = the.version_label; value = the.hash_version }
    ∷ labels_of (codes "web") hash
