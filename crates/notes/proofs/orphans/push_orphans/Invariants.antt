use Rattle.std.proofs.Common.{◌≡◌, ◌++◌, take}
use Rattle.std.specs.Prelude.{flat_map}
use Rattle.notes.specs.Orphans.{orphan_name}
use Rattle.notes.proofs.orphans.push_orphans.Given as goal

abbrev pub invariant-loop-row : goal.invariant-loop-row
invariant-loop-row l = l.names ≡ l.initial.names ++ flat_map (orphan_name l.project l.services) (take l.row-index l.rows)
