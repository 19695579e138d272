use Rattle.std.proofs.Common.{◌≡◌, take}
use Rattle.std.specs.List.{filter}
use Rattle.attribute_scalars.specs.Walks.{is_in}
use Rattle.project_meaning.proofs.needs.kept_of.Given as goal

abbrev pub invariant-loop-need : goal.invariant-loop-need
invariant-loop-need l = l.needs ≡ filter (λ need. is_in l.keys need.key) (take l.need-index l.list)
