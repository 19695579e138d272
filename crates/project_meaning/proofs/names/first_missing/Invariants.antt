use Rattle.std.proofs.Common.{◌≡◌, drop, not}
use Rattle.std.specs.List.{find}
use Rattle.attribute_scalars.specs.Walks.{is_in}
use Rattle.project_meaning.proofs.names.first_missing.Given as goal

abbrev pub invariant-loop-name : goal.invariant-loop-name
invariant-loop-name l =
    find (λ name. not (is_in l.there name)) (drop l.name-index l.names)
    ≡ find (λ name. not (is_in l.there name)) l.names
