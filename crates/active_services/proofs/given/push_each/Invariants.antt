use Rattle.std.proofs.Common.{◌≡◌, ◌++◌, map, take}
use Rattle.active_services.proofs.given.push_each.Given as goal

abbrev pub invariant-loop-name : goal.invariant-loop-name
invariant-loop-name l = l.profiles ≡ l.fn.profiles ++ map (λ name. name.now) (take l.name-index l.names)
