-- An Engine on which `web` runs, what it did while `web` was taken down, and what it held then.
use Rattle.std.specs.Prelude.{List, [], ◌∷◌, codes}
use Rattle.engine_types.specs.declared.ContainerRow.{ContainerRow}
use Rattle.engine_types.specs.declared.ContainerState.{ContainerState}
use Rattle.engine_types.specs.declared.Engine.{Engine}
use Rattle.engine_types.specs.declared.Entry.{Entry}
use Rattle.engine_types.specs.declared.NetRow.{NetRow}
use Rattle.engine_types.specs.declared.Observed.{Observed}
use Rattle.engine_types.specs.declared.Outcome.{Outcome}
use Rattle.engine_types.specs.declared.Reply.{Reply}
use Rattle.engine_types.specs.declared.Request.{Request}
use Rattle.engine_types.specs.declared.SeenEnd.{SeenEnd}
use Rattle.run_model.specs.EngineRules.{Made, Paused, Step, created_row, started_row, stopped_row}
use Rattle.run_laws.specs.OneService.{web}
use Rattle.run_laws.specs.OneWorld.{pulled}
use Rattle.run_laws.specs.OtherRuns.{running}
use Rattle.run_model.specs.Requests.{OfAction, OfSeen}
use Rattle.run_model.specs.Told.{answered}
use Rattle.run_model.specs.Worlds.{Did, Move, Took}

-- the Engine's own network of the name `none`, which joins its containers to no other
abbrev pub alone : NetRow
alone = record { id = codes "n0"; name = codes "none"; labels = [] }

-- an Engine with these containers, its own network, and the image
abbrev pub engine_with : List ContainerRow → Engine
engine_with containers = record {
  containers = containers;
  networks = alone ∷ [];
  volumes = [];
  images = pulled;
  next = 0;
}

-- the container while it runs
abbrev pub runs : ContainerRow
runs = started_row (created_row (codes "c1") web.name web.spec (codes "sha") (codes "n0" ∷ []))

-- the Engine at the beginning
abbrev pub before : Engine
before = engine_with (runs ∷ [])

-- the Engine while the container is stopped
abbrev pub between : Engine
between = engine_with (stopped_row runs ∷ [])

-- the Engine at the end
abbrev pub after : Engine
after = engine_with []

-- the container while it is restarted
abbrev pub restarting : ContainerRow
restarting = record runs { report = record runs.report { state = ContainerState.Restarting } }

-- the Engine while the container is restarted
abbrev pub restarts : Engine
restarts = engine_with (restarting ∷ [])

-- the observation: the container runs
abbrev pub sees : Observed
sees = record {
  exchanges =
      answered (Request.ListContainers (codes "shop")) (Reply.Containers (running ∷ [])) ∷ [];
  end = SeenEnd.Good (record {
    containers = running ∷ [];
    networks = [];
    volumes = [];
    images = [];
  });
}

-- the Engine's moves, newest first
abbrev pub moves : List Move
moves =
    Did (Entry.Leave 0)
    ∷ Did (Entry.Ended 0 (Outcome.Answered Reply.Done))
    ∷ Took (OfAction 1) (Request.Remove (codes "c1")) Reply.Done ∷ Did (Entry.Claim 0 1)
    ∷ Did (Entry.Ended 0 (Outcome.Answered Reply.Done))
    ∷ Took (OfAction 0) (Request.Stop (codes "c1") 10) Reply.Done ∷ Did (Entry.Claim 0 0)
    ∷ Did (Entry.Seen sees)
    ∷ Took (OfSeen 0) (Request.ListContainers (codes "shop")) (Reply.Containers (running ∷ [])) ∷ []

-- what the hand did, where it paused before the stop
abbrev pub steps : List Step
steps =
    Made (answered (Request.ListContainers (codes "shop")) (Reply.Containers (running ∷ [])))
    ∷ Paused 500
    ∷ Made (answered (Request.Stop (codes "c1") 10) Reply.Done)
    ∷ Made (answered (Request.Remove (codes "c1")) Reply.Done) ∷ []
