use Rattle.std.proofs.Common.{◌≡◌, take}
use Rattle.std.specs.Map.{keys_of}
use Rattle.tree_base.specs.ByteOrder.{first_of_each}
use Rattle.container_specs.proofs.lists.distinct.Given as goal

abbrev pub invariant-loop-text : goal.invariant-loop-text
invariant-loop-text l = keys_of l.known ≡ first_of_each (λ text. text) (take l.text-index l.texts)
