-- An Engine in which the two slots run that are replaced one at a time, and what it did until the first one was stopped.
use Rattle.std.specs.Prelude.{ℕ, false, List, [], ◌∷◌, ◌++◌, Some, codes, decimal}
use Rattle.tree_base.specs.declared.Var.{Var}
use Rattle.engine_types.specs.Labels as the
use Rattle.engine_types.specs.Specs.{empty_spec}
use Rattle.engine_types.specs.declared.ContainerRow.{ContainerRow}
use Rattle.engine_types.specs.declared.Declared.{Declared}
use Rattle.engine_types.specs.declared.Engine.{Engine}
use Rattle.engine_types.specs.declared.Entry.{Entry}
use Rattle.engine_types.specs.declared.Listed.{Listed}
use Rattle.engine_types.specs.declared.Observed.{Observed}
use Rattle.engine_types.specs.declared.Purpose.{Purpose}
use Rattle.engine_types.specs.declared.Reply.{Reply}
use Rattle.engine_types.specs.declared.Request.{Request}
use Rattle.engine_types.specs.declared.SeenEnd.{SeenEnd}
use Rattle.engine_types.specs.declared.Slot.{Slot}
use Rattle.run_model.specs.EngineRules.{created_row, started_row, stopped_row}
use Rattle.run_model.specs.Requests.{OfAction, OfSeen}
use Rattle.run_model.specs.Runs.{Task}
use Rattle.run_model.specs.Told.{answered}
use Rattle.run_model.specs.Worlds.{Did, Move, Took}
use Rattle.rolling_update.specs.Worked as two

-- the labels of a container of the slot with this number
abbrev pub labels_at : ℕ → List Var
labels_at number =
    record { name = the.hash_label; value = codes "abc" } ∷ (two.row_at number).labels

-- the slot with this number, whose spec is made for it
abbrev pub web_at : ℕ → Slot
web_at number = record (two.web_at number) {
  spec = record empty_spec { labels = labels_at number; image = Some (codes "a") };
}

-- the project with these two slots
abbrev pub shop : Declared
shop = record two.shop { slots = web_at 1 ∷ web_at 2 ∷ [] }

-- to bring the two slots up with one worker
abbrev pub task : Task
task = record {
  declared = shop;
  aim = record { purpose = Purpose.Up; orphans = false; volumes = false };
  limits = two.setup.limits;
}

-- the listing of the two containers
abbrev pub rows : List Listed
rows =
    record (two.row_at 1) { labels = labels_at 1 }
    ∷ record (two.row_at 2) { labels = labels_at 2 } ∷ []

-- both run, and their image is another one by now
abbrev pub both_run : Observed
both_run = record {
  exchanges =
      answered (Request.ListContainers (codes "shop")) (Reply.Containers rows)
      ∷ answered (Request.Image (codes "a")) (Reply.ImageId (codes "new")) ∷ [];
  end = SeenEnd.Good (record two.both_run { containers = rows });
}

-- the running container of the slot with this number
abbrev pub running_at : ℕ → ContainerRow
running_at number = started_row (created_row
    (codes "c" ++ decimal number) (web_at number).name (web_at number).spec (codes "old") [])

-- an Engine with this container and the second slot's
abbrev pub engine_with : ContainerRow → Engine
engine_with container = record {
  containers = container ∷ running_at 2 ∷ [];
  networks = [];
  volumes = [];
  images = record { name = codes "a"; id = codes "new" } ∷ [];
  next = 0;
}

-- the Engine before the stop of the first slot's container
abbrev pub before : Engine
before = engine_with (running_at 1)

-- the Engine after it
abbrev pub between : Engine
between = engine_with (stopped_row (running_at 1))

-- the journal so far, oldest entry first
abbrev pub journal : List Entry
journal = Entry.Seen both_run ∷ Entry.Claim 0 0 ∷ []

-- the moves so far, newest first
abbrev pub moves : List Move
moves =
    Took (OfAction 0) (Request.Stop (codes "c1") 10) Reply.Done
    ∷ Did (Entry.Claim 0 0) ∷ Did (Entry.Seen both_run)
    ∷ Took (OfSeen 1) (Request.Image (codes "a")) (Reply.ImageId (codes "new"))
    ∷ Took (OfSeen 0) (Request.ListContainers (codes "shop")) (Reply.Containers rows) ∷ []
