use Rattle.std.proofs.Common.{◌≡◌, [], map, take}
use Rattle.std.specs.Prelude.{unwrap_or}
use Rattle.declared_resources.proofs.labels.label_texts.Given as goal

abbrev pub invariant-loop-value : goal.invariant-loop-value
invariant-loop-value l = l.texts ≡ map (λ value. unwrap_or value []) (take l.value-index l.values)
