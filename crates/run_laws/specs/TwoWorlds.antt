-- What an Engine did while a run lost its create and the next one found the container.
use Rattle.std.specs.Prelude.{List, [], ◌∷◌, codes, drop}
use Rattle.engine_types.specs.declared.ContainerRow.{ContainerRow}
use Rattle.engine_types.specs.declared.ContainerState.{ContainerState}
use Rattle.engine_types.specs.declared.Engine.{Engine}
use Rattle.engine_types.specs.declared.Entry.{Entry}
use Rattle.engine_types.specs.declared.NetRow.{NetRow}
use Rattle.engine_types.specs.declared.Outcome.{Outcome}
use Rattle.engine_types.specs.declared.Reply.{Reply}
use Rattle.engine_types.specs.declared.Request.{Request}
use Rattle.engine_types.specs.declared.WireEnd.{WireEnd}
use Rattle.run_model.specs.Cuts.{Ran}
use Rattle.run_model.specs.EngineRules.{created_row, started_row}
use Rattle.run_laws.specs.OneService.{nginx, to_up, upping}
use Rattle.run_laws.specs.OneWorld.{pulled}
use Rattle.run_model.specs.Requests.{OfAction, OfSeen}
use Rattle.run_model.specs.Runs.{run_setup}
use Rattle.run_laws.specs.TwoNetworks.{both, connects, listed, loses_create, network_of, network_row, seen_as, shop, web}
use Rattle.run_model.specs.Worlds.{Did, Move, Took}

-- an Engine with these containers and networks, and the image
abbrev pub engine_with : List ContainerRow → List NetRow → Engine
engine_with containers networks = record {
  containers = containers;
  networks = networks;
  volumes = [];
  images = pulled;
  next = 0;
}

-- nothing but the image
abbrev pub bare : Engine
bare = engine_with [] []

-- the first network
abbrev pub one : List NetRow
one = network_row (codes "n1") (codes "a") ∷ []

-- the second network beside the first
abbrev pub two : List NetRow
two = network_row (codes "n2") (codes "b") ∷ one

-- the container as it is made, on the first network
abbrev pub made : ContainerRow
made = created_row (codes "c1") web.name web.spec (codes "sha") (codes "n1" ∷ [])

-- the container on both networks
abbrev pub joined : ContainerRow
joined = record made { networks = codes "n2" ∷ codes "n1" ∷ [] }

-- the Engine between the runs
abbrev pub between : Engine
between = engine_with (made ∷ []) two

-- the Engine after both runs
abbrev pub after : Engine
after = engine_with (started_row joined ∷ []) two

-- the first run's moves, newest first: the create takes effect after the worker left
abbrev pub first_moves : List Move
first_moves =
    Took (OfAction 2) (Request.Create web.name web.spec) (Reply.Made (codes "c1"))
    ∷ Did (Entry.Leave 0) ∷ Did (Entry.Ended 0 (Outcome.Lost WireEnd.Fault)) ∷ Did (Entry.Claim 0 2)
    ∷ Did (Entry.Ended 0 (Outcome.Answered (Reply.Made (codes "n2"))))
    ∷ Took (OfAction 1) (Request.MakeNetwork (network_of (codes "b"))) (Reply.Made (codes "n2"))
    ∷ Did (Entry.Claim 0 1)
    ∷ Did (Entry.Ended 0 (Outcome.Answered (Reply.Made (codes "n1"))))
    ∷ Took (OfAction 0) (Request.MakeNetwork (network_of (codes "a"))) (Reply.Made (codes "n1"))
    ∷ Did (Entry.Claim 0 0)
    ∷ Did (Entry.Seen (seen_as [] []))
    ∷ Took (OfSeen 2) (Request.Image nginx) (Reply.ImageId (codes "sha"))
    ∷ Took (OfSeen 1) Request.ListNetworks (Reply.Networks [])
    ∷ Took (OfSeen 0) (Request.ListContainers (codes "shop")) (Reply.Containers []) ∷ []

-- the second run's moves, newest first
abbrev pub second_moves : List Move
second_moves =
    Did (Entry.Leave 0)
    ∷ Did (Entry.Ended 0 (Outcome.Answered Reply.Done))
    ∷ Took (OfAction 1) (Request.Start (codes "c1")) Reply.Done ∷ Did (Entry.Claim 0 1)
    ∷ Did (Entry.Ended 0 (Outcome.Answered Reply.Done))
    ∷ Took (OfAction 0) (Request.Connect (codes "n2") (codes "c1") (codes "web" ∷ [])) Reply.Done
    ∷ Did (Entry.Claim 0 0)
    ∷ Did (Entry.Seen (seen_as (listed ContainerState.Created (codes "shop_a" ∷ []) ∷ []) both))
    ∷ Took (OfSeen 2) (Request.Image nginx) (Reply.ImageId (codes "sha"))
    ∷ Took (OfSeen 1) Request.ListNetworks (Reply.Networks both)
    ∷ Took (OfSeen 0) (Request.ListContainers (codes "shop"))
    (Reply.Containers (listed ContainerState.Created (codes "shop_a" ∷ []) ∷ [])) ∷ []

-- the first run's moves before its create takes effect
abbrev pub waiting_moves : List Move
waiting_moves = drop 1 first_moves

-- the Engine as it then is, with both networks
abbrev pub waiting : Engine
waiting = engine_with [] two

-- the two runs, the latest first
abbrev pub both_runs : List Ran
both_runs =
    record { aim = to_up; setup = run_setup (upping shop) connects; moves = second_moves }
    ∷ record { aim = to_up; setup = run_setup (upping shop) loses_create; moves = first_moves } ∷ []
