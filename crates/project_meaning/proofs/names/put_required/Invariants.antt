use Rattle.std.proofs.Common.{◌≡◌, ◌++◌, map, take}
use Rattle.std.specs.List.{filter}
use Rattle.project_meaning.proofs.names.put_required.Given as goal

abbrev pub invariant-loop-need : goal.invariant-loop-need
invariant-loop-need l = l.names.items ≡ l.fn.names.items ++ map (λ need. need.key) (filter (λ need. need.required) (take l.need-index l.list))
