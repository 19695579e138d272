use Rattle.std.proofs.Common.{map, take}
use Rattle.engine_replies.specs.Objects.{Adds}
use Rattle.engine_replies.proofs.Tables.{alone}
use Rattle.engine_replies.proofs.objects.Object.names.Given as goal

abbrev pub invariant-loop-name : goal.invariant-loop-name
invariant-loop-name l = Adds l.initial.self l.self (map alone (take l.name-index l.name-items))
