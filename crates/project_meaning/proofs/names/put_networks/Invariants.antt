use Rattle.std.proofs.Common.{◌≡◌, ◌++◌, map, take}
use Rattle.project_meaning.proofs.names.put_networks.Given as goal

abbrev pub invariant-loop-joined : goal.invariant-loop-joined
invariant-loop-joined l = l.names.items ≡ l.fn.names.items ++ map (λ joined. joined.key) (take l.joined-index l.list)
