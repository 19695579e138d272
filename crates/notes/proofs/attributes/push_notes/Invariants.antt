use Rattle.std.proofs.Common.{◌≡◌, ◌++◌, map, take}
use Rattle.std.specs.Prelude.{flat_map}
use Rattle.notes.specs.Attributes.{key_notes}
use Rattle.notes.proofs.attributes.push_notes.Given as goal

abbrev pub invariant-loop-key : goal.invariant-loop-key
invariant-loop-key l = l.notes ≡ l.initial.notes ++ flat_map (key_notes l.section l.services) (map (λ key. key.now) (take l.key-index l.keys))
