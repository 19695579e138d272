use Rattle.std.proofs.Common.{◌≡◌, map, take}
use Rattle.serde_json.specs.View.{view}
use Rattle.engine_replies.specs.Values.{volume_value}
use Rattle.engine_replies.proofs.rows.volume_rows.Given as goal

abbrev pub invariant-loop-name : goal.invariant-loop-name
invariant-loop-name l = map view l.items.items ≡ map volume_value (take l.name-index l.name-items)
