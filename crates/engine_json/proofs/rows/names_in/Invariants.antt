use Rattle.std.proofs.Common.{◌≡◌, ◌++◌, codes, drop, map}
use Rattle.std.specs.Option.{option_map}
use Rattle.response_rules.specs.Json.{of_each, text_at}
use Rattle.serde_json.specs.View.{view}
use Rattle.engine_json.proofs.rows.names_in.Given as goal

abbrev pub invariant-loop-item : goal.invariant-loop-item
invariant-loop-item l =
    option_map (λ names. l.names ++ names) (of_each (text_at (codes "Name")) (map view (drop l.item-index l.items)))
    ≡ of_each (text_at (codes "Name")) (map view l.items)
