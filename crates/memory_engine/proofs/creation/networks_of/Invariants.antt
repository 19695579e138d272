use Rattle.std.proofs.Common.{◌≡◌, take}
use Rattle.std.specs.List.{filter_map}
use Rattle.memory_engine.specs.Serving.{network_named}
use Rattle.memory_engine.proofs.creation.networks_of.Given as goal

abbrev pub invariant-loop-endpoint : goal.invariant-loop-endpoint
invariant-loop-endpoint l =
    l.ids ≡ filter_map (λ endpoint. network_named l.engine endpoint.key) (take l.endpoint-index l.endpoint-items)
