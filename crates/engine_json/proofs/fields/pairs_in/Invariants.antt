use Rattle.std.proofs.Common.{◌≡◌, ◌++◌, map}
use Rattle.std.specs.Option.{option_map}
use Rattle.std.specs.String.{string_bytes}
use Rattle.response_rules.specs.Json.{of_each, pair_of}
use Rattle.serde_json.specs.View.{view}
use Rattle.engine_json.proofs.fields.pairs_in.Given as goal

abbrev pub invariant-loop-name : goal.invariant-loop-name
invariant-loop-name l =
    option_map (λ pairs. l.pairs ++ pairs) (of_each pair_of (map (λ m. (string_bytes m.0, view m.1)) l.name-iterator))
    ≡ of_each pair_of (map (λ m. (string_bytes m.0, view m.1)) l.fn.members.entries)
