-- An Engine without anything, what it did while `web` came up, and what it held then.
use Rattle.std.specs.Prelude.{List, [], ◌∷◌, codes}
use Rattle.engine_types.specs.declared.ContainerRow.{ContainerRow}
use Rattle.engine_types.specs.declared.Engine.{Engine}
use Rattle.engine_types.specs.declared.Entry.{Entry}
use Rattle.engine_types.specs.declared.ImageRow.{ImageRow}
use Rattle.engine_types.specs.declared.Outcome.{Outcome}
use Rattle.engine_types.specs.declared.Reply.{Reply}
use Rattle.engine_types.specs.declared.Request.{Request}
use Rattle.run_model.specs.EngineRules.{created_row, started_row}
use Rattle.run_laws.specs.OneService.{nginx, seen_fresh, web}
use Rattle.run_model.specs.Requests.{OfAction, OfSeen}
use Rattle.run_model.specs.Worlds.{Did, Move, Took}

-- an Engine with these containers and images
abbrev pub engine_with : List ContainerRow → List ImageRow → Engine
engine_with containers images = record {
  containers = containers;
  networks = [];
  volumes = [];
  images = images;
  next = 0;
}

-- an Engine that holds nothing
abbrev pub fresh : Engine
fresh = engine_with [] []

-- the pulled image
abbrev pub pulled : List ImageRow
pulled = record { name = nginx; id = codes "sha" } ∷ []

-- the container as it is made
abbrev pub made : ContainerRow
made = created_row (codes "c1") web.name web.spec (codes "sha") []

-- the Engine at the end
abbrev pub up : Engine
up = engine_with (started_row made ∷ []) pulled

-- the Engine's moves, newest first
abbrev pub moves : List Move
moves =
    Did (Entry.Leave 0)
    ∷ Did (Entry.Ended 0 (Outcome.Answered Reply.Done))
    ∷ Took (OfAction 1) (Request.Start (codes "c1")) Reply.Done ∷ Did (Entry.Claim 0 1)
    ∷ Did (Entry.Ended 0 (Outcome.Answered (Reply.Made (codes "c1"))))
    ∷ Took (OfAction 0) (Request.Create web.name web.spec) (Reply.Made (codes "c1"))
    ∷ Did (Entry.Claim 0 0)
    ∷ Did (Entry.Seen seen_fresh)
    ∷ Took (OfSeen 3) (Request.Image nginx) (Reply.ImageId (codes "sha"))
    ∷ Took (OfSeen 2) (Request.Pull nginx) Reply.Pulled
    ∷ Took (OfSeen 1) (Request.Image nginx) (Reply.Refused 404 (codes "not found"))
    ∷ Took (OfSeen 0) (Request.ListContainers (codes "shop")) (Reply.Containers []) ∷ []
