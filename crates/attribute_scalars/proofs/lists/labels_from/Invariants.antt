use Rattle.std.proofs.Common.{◌≡◌, [], Some, map, take, unwrap_or}
use Rattle.attribute_scalars.proofs.lists.labels_from.Given as goal

abbrev pub invariant-loop-value : goal.invariant-loop-value
invariant-loop-value l = l.labels ≡ map (λ value. Some (unwrap_or value [])) (take l.value-index l.values)
