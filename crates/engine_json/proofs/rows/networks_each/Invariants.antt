use Rattle.std.proofs.Common.{◌≡◌, ◌++◌, drop, map}
use Rattle.std.specs.Option.{option_map}
use Rattle.response_rules.specs.Json.{of_each}
use Rattle.response_rules.specs.Replies.{network_of}
use Rattle.serde_json.specs.View.{view}
use Rattle.engine_json.proofs.rows.networks_each.Given as goal

abbrev pub invariant-loop-item : goal.invariant-loop-item
invariant-loop-item l =
    option_map (λ rows. l.found ++ rows) (of_each network_of (map view (drop l.item-index l.items)))
    ≡ of_each network_of (map view l.items)
