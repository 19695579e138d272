use Rattle.std.proofs.Common.{map, take}
use Rattle.engine_replies.specs.Objects.{Adds}
use Rattle.engine_replies.proofs.Tables.{keyed}
use Rattle.engine_replies.proofs.objects.Object.items.Given as goal

abbrev pub invariant-loop-item : goal.invariant-loop-item
invariant-loop-item g l = Adds l.initial.self l.self (map (keyed g.T.Keyed.name g.T.ToJson.told) (take l.item-index l.item-items))
