use Rattle.std.proofs.Common.{◌≡◌, map, take}
use Rattle.file_digests.specs.Digests.{empty_digest}
use Rattle.file_digests.proofs.empty.empty_of.Given as goal

abbrev pub invariant-loop-item : goal.invariant-loop-item
invariant-loop-item l = l.digests ≡ map (empty_digest l.kind) (take l.item-index l.items)
