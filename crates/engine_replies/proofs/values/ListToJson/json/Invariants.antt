use Rattle.std.proofs.Common.{◌≡◌, map, take}
use Rattle.serde_json.specs.View.{view}
use Rattle.engine_replies.proofs.values.ListToJson.json.Given as goal

abbrev pub invariant-loop-item : goal.invariant-loop-item
invariant-loop-item g l = map view l.items.items ≡ map g.T.ToJson.told (take l.item-index l.item-items)
